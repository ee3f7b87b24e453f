-- A sound file with nothing in front, cut anywhere, has all whole labels before the cut kept. Assumes nothing.
use mathlib.Core.Path.{◌≡◌, refl, sym, ap, ◌∙◌, subst}
use mathlib.Core.Logic.{dite}
use mathlib.Core.Bool.{Bool, true, false}
use Prim.Native.Nat.{ℕ, ◌+◌, ◌*◌, ◌-◌, ◌/◌, ◌≤◌, ◌<◌}
use native.Mathlib.Decide.{dec_le}
use native.Mathlib.Nat.{lt_of_not-le, le_refl, le_antisymm, add-zero}
use native.Mathlib.Omega.{arith}
use mathlib.Core.List.{List, ◌++◌, append_assoc}
use lib.Dec.{T}
use lib.ListN.{length, get_or, take, drop, length-take, length-drop}
use lib.Seq.{take_all, take_at, take-take, drop-drop, get_or-drop}
use borrow.Author.Tests.{eq-eqb, ne_eqb}
use Rattle.endian.specs.LittleEndian.{le4}
use Rattle.label.specs.Codec.{judged, decoded}
use Rattle.label.specs.Layout.{label_size, fields_at}
use Rattle.label.specs.Rules.{watts_allowed, keeps_rules}
use Rattle.label.specs.declared.fields.Fields.{Fields}
use Rattle.label.proofs.FieldRules.{kept}
use Rattle.sequence.specs.Sequence.{leading}
use Rattle.trailer.specs.Trailer.{trailer_size, distance_back, stating, stated_counts, trailer_bytes, last_bytes, distance_in}
use Rattle.label_file.specs.File.{part_at}
use Rattle.label_file.specs.Reading.{keeps_at, body_in}
use Rattle.trailer.specs.declared.Counts.{Counts}
use Rattle.trailer.specs.declared.Form.{Form}
use Rattle.trailer.specs.declared.Form.TheVariants.{Bytes16, Bytes24}
use Rattle.label_file.proofs.Accepted.{AcceptedFile, accepted_file}
use Rattle.sequence.proofs.Sequences.{leading_all, leading_stops}
use Rattle.trailer.proofs.Trailers.{Says, size_bounds, trailer_says}
use Rattle.salvage.specs.Salvage.{whole_labels, kept_labels, kept_bytes, kept_counts, dropped_bytes, salvaged_file, kept_dropping}
use Rattle.salvage.specs.CutFile.{Sound, whole_before, KeptOf, CutFile}
use Rattle.salvage.proofs.Starts.{start_leading}
use Rattle.salvage.proofs.Written.{kept_length, answer_is, output_is}
use Rattle.std.specs.Prelude.{Ok}

-- ---- the trailer of 24 bytes is no label: its dark labels are below 65,536, so the byte of the reading is 0, and where the bits of
-- watts are due it has the distance, which is not 0

le4_drop : (l : List ℕ) (at : ℕ) → le4 (drop at l) 0 ≡ le4 l at
le4_drop l at =
    let first = get_or-drop at l 0 0 ∙ ap (λ (k : ℕ). get_or l k 0) (add-zero at) in
    λ i. first i + 256 * get_or-drop at l 1 0 i + 65_536 * get_or-drop at l 2 0 i + 16_777_216 * get_or-drop at l 3 0 i

no_watts : (code watts : ℕ) → code ≡ 0 → (watts ≡ 0 → ⊥) → watts_allowed code watts ≡ false
unfolding watts_allowed
no_watts code watts c w = rw c (ne_eqb watts 0 w)

fields_broken : (f : Fields) (t : Bool) → keeps_rules f ≡ t → watts_allowed f.code f.watts ≡ false → t ≡ false
fields_broken f true e w = absurd (subst T (sym (sym w ∙ (kept f e).watts)) tt)
fields_broken f false e w = refl

module _ (file : List ℕ) (c : Counts) (sound : Sound file Bytes24 c) where
  abbrev last : List ℕ
  last = last_bytes 24 file

  says : Says file (length file) Bytes24 c
  unfolding stating
  says = trailer_says file (length file) Bytes24 c (accepted_file file Bytes24 c sound.accepted).trailer

  size : length file ≡ label_size * c.labels + 24
  unfolding trailer_size
  size = sound.alone

  dark_is : le4 last 12 ≡ c.dark
  unfolding stated_counts trailer_size
  dark_is = ap (λ (x : Counts). x.dark) says.counts_are

  distance_last : le4 last 20 ≡ distance_back Bytes24 c.labels
  unfolding distance_in
  distance_last =
      let at : length file - 24 + 20 ≡ length file - 4 = omega (arith, size) in
      sym (le4_drop last 20) ∙ ap (λ (l : List ℕ). le4 l 0) (drop-drop 20 (length file - 24) file ∙ ap (λ (k : ℕ). drop k file) at) ∙ says.distance_is

  watts_broken : watts_allowed (fields_at last).code (fields_at last).watts ≡ false
  unfolding fields_at
  watts_broken =
      no_watts (get_or last 14 0) (le4 last 20) (omega (arith, dark_is, says.bounded.dark, says.placed.few)) (λ z. omega (arith, z, distance_last, size_bounds Bytes24))

  trailer_broken : keeps_at file c.labels ≡ false
  unfolding keeps_at decoded judged part_at
  trailer_broken =
      let at : label_size * c.labels ≡ length file - 24 = omega (arith, size) in
      let part = take_all label_size (drop (label_size * c.labels) file) (omega (arith, length-drop (label_size * c.labels) file, size)) ∙ ap (λ (k : ℕ). drop k file) at in
      rw (part, eq-eqb (length last) label_size (omega (arith, length-drop (length file - 24) file, size)), fields_broken (fields_at last) _ refl watts_broken)

-- ---- the whole file

module _ (file : List ℕ) (form : Form) (c : Counts) (sound : Sound file form c) where
  accepted : AcceptedFile file form c
  accepted = accepted_file file form c sound.accepted

  keeps : (k : ℕ) → k < c.labels → keeps_at file k ≡ true
  unfolding body_in
  keeps k l =
      let none : length file - distance_back form c.labels ≡ 0 = omega (arith, sound.alone) in
      ap (λ (at : ℕ). keeps_at (drop at file) k) (sym none) ∙ accepted.kept k l

  -- up to the last label all are kept
  leading_labels : (m : ℕ) → m ≤ c.labels → leading (keeps_at file) m ≡ m
  leading_labels m h = leading_all (keeps_at file) m (λ k l. keeps k (omega arith))

  -- the whole labels of the file's length: with the trailer of 16 bytes its own, and never fewer
  whole_16 : form ≡ Bytes16 → whole_labels (length file) ≡ c.labels
  unfolding trailer_size
  whole_16 e = let alone = rw e at sound.alone in omega (arith, alone, accepted.placed.few)

  whole_within : c.labels ≤ whole_labels (length file)
  whole_within = omega (arith, sound.alone, accepted.placed.few)

whole_file : (file : List ℕ) (form : Form) (c : Counts) → Sound file form c → kept_labels file ≡ c.labels
unfolding kept_labels
whole_file file Bytes16 c sound =
    let whole = whole_16 file Bytes16 c sound refl in
    ap (leading (keeps_at file)) whole ∙ leading_labels file Bytes16 c sound c.labels (le_refl c.labels)
whole_file file Bytes24 c sound =
    dite (dec_le (whole_labels (length file)) c.labels)
    (λ l. leading_labels file Bytes24 c sound _ l ∙ le_antisymm l (whole_within file Bytes24 c sound))
    (λ l. leading_stops (keeps_at file) c.labels _ (keeps file Bytes24 c sound) (trailer_broken file c sound) (lt_of_not-le l))

-- ---- a cut

module _ (file : List ℕ) (form : Form) (c : Counts) (cut : ℕ) (sound : Sound file form c) where
  abbrev piece : List ℕ
  piece = take cut file

  -- among the labels, or behind them
  kept_before : kept_labels (take cut file) ≡ whole_before c.labels cut
  unfolding kept_labels
  kept_before =
      dite (dec_le (cut / label_size) c.labels)
      (λ h.
      let whole : whole_labels (length piece) ≡ whole_before c.labels cut = omega (arith, length-take cut file, sound.alone, size_bounds form, (accepted file form c sound).placed.few) in
      start_leading file cut (whole_labels (length piece)) (omega arith) ∙ ap (leading (keeps_at file)) whole ∙ leading_labels file form c sound (whole_before c.labels cut) (omega arith))
      (λ h.
      let behind = lt_of_not-le h in
      ap kept_labels (take_all cut file (omega (arith, sound.alone, size_bounds form, behind))) ∙ whole_file file form c sound ∙ omega (arith, behind))

  module _ (output : List ℕ) (enough : distance_back Bytes24 (whole_before c.labels cut) ≤ length output) where
    room : distance_back Bytes24 (kept_labels (take cut file)) ≤ length output
    room = omega (arith, kept_before, enough)

    kept_of : KeptOf file cut (whole_before c.labels cut) output
    unfolding dropped_bytes salvaged_file kept_bytes
    kept_of =
        let before = whole_before c.labels cut in
        let rest = drop (distance_back Bytes24 (kept_labels piece)) output in
        let trailer = trailer_bytes Bytes24 (kept_counts piece) in
        record {
          answer_is = answer_is piece output room ∙ ap (λ (k : ℕ). Ok (kept_dropping k (length piece - label_size * k))) kept_before;
          labels_are = ap (take (label_size * before)) (output_is piece output room ∙ append_assoc (kept_bytes piece) trailer rest)
              ∙ take_at (kept_bytes piece) (trailer ++ rest) (label_size * before) (omega (arith, kept_length piece, kept_before))
              ∙ ap (λ (k : ℕ). take (label_size * k) piece) kept_before ∙ take-take (label_size * before) cut file (omega arith);
        }

pub cut_file : CutFile
cut_file file form c cut output sound enough = kept_of file form c cut sound output enough
