-- Calls with files one after another add them as the steps by value do. Assumes nothing.
use mathlib.Core.Path.{◌≡◌, refl, sym, ap, ◌∙◌}
use Prim.Native.Nat.{ℕ}
use mathlib.Core.List.{List, [], ◌∷◌, ◌++◌, foldl, foldl-append, append-nil, append_assoc}
use borrow.Author.Tests.{eq-eqb}
use lib.ListN.{replicate}
use Rattle.endian.specs.LittleEndian.{bytes4, bytes8}
use Rattle.scale.specs.Figures.{nothing}
use Rattle.scale.specs.Step.{scaling}
use Rattle.scale.specs.Files.{Given, afterwards, after_one, after}
use Rattle.scale.proofs.ManyFiles.{sums, made}
use Rattle.figures_buffer.specs.FigureBytes.{figures_bytes}
use Rattle.figures_buffer.proofs.StoredFigures.{figures_length}
use Rattle.figures_buffer.proofs.FiguresBack.{figures_back}
use Rattle.statuses.specs.Call.{Call, ended}
use Rattle.yurdelmiz.specs.Calls.{scale_outcome, scale_call}
use Rattle.yurdelmiz.specs.ScaledFiles.{scaled_buffer, ScaledFiles}
use Rattle.statuses.proofs.Endings.{ends}
use Rattle.refusal.specs.declared.RefusedAt.{RefusedAt}
use Rattle.scale.specs.declared.Figures.{Figures}
use Rattle.std.specs.Prelude.{Err, Ok, Result}

start : replicate 48 0 ≡ figures_bytes nothing
unfolding figures_bytes nothing bytes8 bytes4
start = refl

one : (gs : List Given) (g : Given) → scaled_buffer (figures_bytes (after gs)) g ≡ figures_bytes (after (gs ++ (g ∷ [])))
unfolding scale_call
one gs g =
    let f = after gs in
    ap (λ (c : Call). c.answer) (ends _ _ (figures_bytes f) (eq-eqb _ 48 (figures_length f)))
    ∙ rw (figures_back f (made gs)) (by (scaling f g.buffer g.size))
    ∙ ap figures_bytes (sym (foldl-append after_one nothing gs (g ∷ [])))
  where
    by : (s : Result Figures RefusedAt) → (ended (scale_outcome s) (figures_bytes (after gs))).answer ≡ figures_bytes (afterwards (after gs) s)
    by (Err refused) = refl
    by (Ok f) = refl

steps : (before gs : List Given) → foldl scaled_buffer (figures_bytes (after before)) gs ≡ figures_bytes (after (before ++ gs))
steps before [] = ap (λ (l : List Given). figures_bytes (after l)) (sym (append-nil before))
steps before (g ∷ gs) =
    ap (λ (l : List ℕ). foldl scaled_buffer l gs) (one before g) ∙ steps (before ++ (g ∷ [])) gs
    ∙ ap (λ (l : List Given). figures_bytes (after l)) (append_assoc before (g ∷ []) gs)

pub scaled_files : ScaledFiles
scaled_files gs = ap (λ (l : List ℕ). foldl scaled_buffer l gs) start ∙ steps [] gs ∙ ap figures_bytes (sums gs)
