-- `trailer::find` meets its contract. Assumes nothing.
use mathlib.Core.Path.{◌≡◌, refl, ◌∙◌, sym, ap, subst}
use Prim.Native.Nat.{ℕ, ◌-◌, ◌<◌}
use native.Mathlib.Omega.{arith}
use mathlib.Core.Bool.{Bool, true, false, cond}
use Rattle.std.specs.Bool.{then_some}
use Rattle.trailer.specs.declared.Contents.{Contents}
use lib.ListN.{length, take, drop, length-drop}
use Rattle.endian.proofs.Slices.{rest_part}
use mathlib.Core.List.{List}
use Rattle.trailer.specs.declared.Form.{Form}
use Rattle.trailer.specs.Trailer.{trailer_size, form_of, stated_counts, trailer_allowed, last_bytes, distance_in}
use Rattle.trailer.proofs.Trailers.{size_bounds, trailer_short, trailer_tested}
use Rattle.trailer.proofs.find.Goals as goal
use Rattle.std.specs.Prelude.{None, Some}
use Rattle.trailer.specs.Counts.{contents_of}

pub returns-then-given-lt-SIZE_16 : goal.returns-then-given-lt-SIZE_16
returns-then-given-lt-SIZE_16 c =
    let last = c.args.last.now in
    sym (trailer_short last c.args.size (omega (arith, c.if-given-lt-SIZE_16.true, size_bounds (form_of (distance_in last)))))

pub returns-then-given-own : goal.returns-then-given-own
returns-then-given-own c =
    let last = c.args.last.now in
    let f = c.form_of-form.ensures ∙ ap form_of c.find_distance-distance.ensures in
    sym (trailer_short last c.args.size (subst (λ (form : Form). length last < trailer_size form) f (omega (arith, c.if-given-own.true, c.size-own.ensures))))

-- the bytes from the trailer on
rest_is : (last : List ℕ) {own size : ℕ} → own ≡ size → take (length last - (length last - own)) (drop (length last - own) last) ≡ last_bytes size last
rest_is last e = rest_part last _ ∙ ap (λ (n : ℕ). last_bytes n last) e

pub read_counts-stated-requires : goal.read_counts-stated-requires
read_counts-stated-requires c =
    let last = c.args.last.now in
    rw (rest_is last c.size-own.ensures)
    (omega (arith, length-drop (length last - trailer_size c.form_of-form.result) last, c.if-given-own.false, c.size-own.ensures))

chosen : (t : Bool) (c : Contents) → then_some t c ≡ cond t (Some c) None
chosen true c = refl
chosen false c = refl

pub returns : goal.returns
returns c =
    let last = c.args.last.now in
    let form = c.form_of-form.result in
    let counts = c.read_counts-stated.result in
    let form_is = c.form_of-form.ensures ∙ ap form_of c.find_distance-distance.ensures in
    let stated = c.read_counts-stated.ensures ∙ ap (stated_counts form) (rest_is last c.size-own.ensures) in
    let tested = trailer_tested last c.args.size form_is stated (omega (arith, c.if-given-own.false, c.size-own.ensures)) in
    let same = c.allowed.ensures ∙ ap (λ (d : ℕ). trailer_allowed form counts d c.args.size) c.find_distance-distance.ensures in
    c.then_some.ensures ∙ chosen _ _ ∙ ap (λ (t : Bool). cond t (Some (contents_of form counts)) None) same ∙ sym tested
