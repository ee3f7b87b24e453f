-- Reading stays consistent with each byte, and what a file gives is in bounds. Assumes nothing.
use mathlib.Core.Path.{◌≡◌, refl, ◌∙◌}
use mathlib.Core.Bool.{true, false, cond}
use mathlib.Core.List.{List, [], ◌∷◌}
use Prim.Native.Nat.{ℕ, suc, ◌+◌, ◌-◌, ◌^◌, ◌≤◌, ◌<◌, zero-le}
use native.Mathlib.Nat.{add-zero}
use native.Mathlib.Omega.{arith}
use borrow.Author.Tests.{eqb-true, eqb-false, leb-true, ltb-false}
use lib.Dec.{eqb, leb, ltb, lit≤}
use lib.IntN.{ℤ}
use lib.ListN.{length}
use mir.Syntax.{w32, w64}
use mir.Val.{SFits}
use Rattle.std.specs.Prelude.{is_some}
use Rattle.elements.specs.declared.Elements.{Elements}
use Rattle.elements_file.specs.Names.{name_byte}
use Rattle.elements_file.proofs.Bytes.{name_inside}
use Rattle.elements_file.proofs.Choices.{choice}
use Rattle.elements_file.proofs.Magnitudes.{fits_unsigned, fits_rate, fits_epoch}
use Rattle.digit.specs.Digit.{is_digit}
use Rattle.elements_file.specs.Numbers.{is_rate, is_epoch, largest, magnitude_of, grown, takes_minus, signed_of}
use Rattle.elements_file.specs.Lines.{refused, named, counted, valued, begun, within}
use Rattle.elements_file.specs.Fields.{stored}
use Rattle.elements_file.specs.Reading.{start, ended, step, after_bytes, concluded, parsed}
use Rattle.elements.specs.Contract.{Held}
use Rattle.elements_file.specs.Contract.{NameAt, Fitting, Consistent, InBounds}
use Rattle.elements_file.specs.declared.Progress.{Progress}
use Rattle.elements_file.specs.declared.line.Place.{Place}
use Rattle.elements_file.specs.declared.line.Place.TheVariants.{Start, Comment, Named, Value, Faulty}
use Rattle.elements_file.specs.declared.number.Number.{Number}

module _ (element : ℕ) (below : element ≤ 12) where
  fit : Place → Type 0
  fit p = Fitting element p

  named_fits : (k byte : ℕ) → NameAt element k → fit (named element k byte)
  unfolding named refused fit
  named_fits k byte w =
      choice fit (eqb byte (name_byte element k))
      (λ t. choice fit (eqb byte 32) (λ u. (w.due, zero-le))
      (λ u. record { due = w.due; place = let h = name_inside element k (λ e. eqb-false byte 32 u (eqb-true byte (name_byte element k) t ∙ e)) in omega arith }))
      (λ t. tt)

  valued_fits : (n : Number) (byte : ℕ) → element < 12 → magnitude_of n ≤ largest element n.negative → fit (valued element n byte)
  unfolding valued refused counted fit
  valued_fits n byte due held =
      choice fit (is_digit byte)
      (λ t. choice fit (leb (magnitude_of (grown n (byte - 48))) (largest element n.negative)) (λ u. (due, leb-true _ _ u)) (λ u. tt))
      (λ t. choice fit (eqb byte 45) (λ u. choice fit (takes_minus element n) (λ v. (due, zero-le)) (λ v. tt))
      (λ u. choice fit (eqb byte 46) (λ v. tt) (λ v. tt)))

  begun_fits : (byte : ℕ) → fit (begun element byte)
  unfolding begun refused fit
  begun_fits byte =
      choice fit (eqb byte 35) (λ t. tt)
      (λ t. choice fit (eqb element 12) (λ u. tt)
      (λ u. named_fits 0 byte (record { due = omega (arith, eqb-false element 12 u); place = zero-le })))

  pub within_fits : (p : Place) (byte : ℕ) → Fitting element p → Fitting element (within p element byte)
  unfolding within fit
  within_fits Start byte f = begun_fits byte
  within_fits Comment byte f = tt
  within_fits (Named k) byte f = named_fits k byte f
  within_fits (Value n) byte f = valued_fits n byte f.0 f.1
  within_fits (Faulty fault) byte f = tt

-- ---- the elements
module _ (el : Elements) (element : ℕ) (n : Number) (holds : magnitude_of n ≤ largest element n.negative) where
  unsigned_held : (k other : ℕ) → is_epoch k ≡ false → is_rate k ≡ false → other < 2 ^ 32 → cond (eqb element k) (magnitude_of n) other < 2 ^ 32
  unsigned_held k other e r h =
      choice (λ (m : ℕ). m < 2 ^ 32) (eqb element k) (fits_unsigned k element (magnitude_of n) n.negative e r holds) (λ t. h)

  rate_held : (k : ℕ) (other : ℤ) → is_epoch k ≡ false → is_rate k ≡ true → SFits w32 other → SFits w32 (cond (eqb element k) (signed_of n) other)
  rate_held k other e r h = choice (SFits w32) (eqb element k) (fits_rate k element n e r holds) (λ t. h)

  stored_held : Held el → Held (stored el element n)
  unfolding stored
  stored_held h =
      record {
        eccentricity = unsigned_held 0 _ refl refl h.eccentricity;
        semi_major_axis = unsigned_held 1 _ refl refl h.semi_major_axis;
        inclination = unsigned_held 2 _ refl refl h.inclination;
        node = unsigned_held 3 _ refl refl h.node;
        argument_of_perigee = unsigned_held 4 _ refl refl h.argument_of_perigee;
        mean_anomaly = unsigned_held 5 _ refl refl h.mean_anomaly;
        mean_motion = unsigned_held 6 _ refl refl h.mean_motion;
        node_rate = rate_held 7 _ refl refl h.node_rate;
        perigee_rate = rate_held 8 _ refl refl h.perigee_rate;
        epoch_revolution = unsigned_held 9 _ refl refl h.epoch_revolution;
        epoch = choice (SFits w64) (eqb element 10) (fits_epoch element n holds) (λ t. h.epoch);
        derivative = rate_held 11 _ refl refl h.derivative;
      }

-- ---- a byte
ended_consistent : (i : ℕ) (p : Place) (s : Progress) → s.place ≡ p → Consistent i s → Consistent (i + 1) (ended p s)
unfolding ended
ended_consistent i Start s e h = record { line = omega arith; element = h.element; place = tt; elements = h.elements }
ended_consistent i Comment s e h = record { line = omega arith; element = h.element; place = tt; elements = h.elements }
ended_consistent i (Named k) s e h = record { line = omega arith; element = h.element; place = tt; elements = h.elements }
ended_consistent i (Value n) s e h =
    let f = rw e at h.place in
    choice (Consistent (i + 1)) (is_some n.magnitude)
    (λ t. record { line = omega arith; element = omega arith; place = tt; elements = stored_held s.elements s.element n f.1 h.elements })
    (λ t. record { line = omega arith; element = h.element; place = tt; elements = h.elements })
ended_consistent i (Faulty fault) s e h = record { line = omega arith; element = h.element; place = h.place; elements = h.elements }

pub step_consistent : (i : ℕ) (s : Progress) (byte : ℕ) → Consistent i s → Consistent (i + 1) (step s byte)
unfolding step
step_consistent i s byte h =
    choice (Consistent (i + 1)) (eqb byte 10) (λ t. ended_consistent i s.place s refl h)
    (λ t. record { line = omega arith; element = h.element; place = within_fits s.element h.element s.place byte h.place; elements = h.elements })

pub start_consistent : Consistent 0 start
unfolding start
start_consistent =
    let none : 0 < 2 ^ 32 = lit≤ tt in
    record {
      line = omega arith;
      element = zero-le;
      place = tt;
      elements =
          record {
            eccentricity = none;
            semi_major_axis = none;
            inclination = none;
            node = none;
            argument_of_perigee = none;
            mean_anomaly = none;
            mean_motion = none;
            node_rate = record { sfits = lit≤ tt };
            perigee_rate = record { sfits = lit≤ tt };
            epoch_revolution = none;
            epoch = record { sfits = lit≤ tt };
            derivative = record { sfits = lit≤ tt };
          };
    }

-- ---- a file
after_consistent : (i : ℕ) (s : Progress) (bytes : List ℕ) → Consistent i s → Consistent (i + length bytes) (after_bytes s bytes)
unfolding after_bytes
after_consistent i s [] h = rw (add-zero i) h
after_consistent i s (byte ∷ bytes) h =
    let e : i + 1 + length bytes ≡ i + suc (length bytes) = omega arith in
    rw e at (after_consistent (i + 1) (step s byte) bytes (step_consistent i s byte h))

concluded_in_bounds : (p : Place) (s : Progress) → Consistent 65_535 s → InBounds (concluded p s)
unfolding concluded
concluded_in_bounds Start s h = choice InBounds (eqb s.element 12) (λ t. h.elements) (λ t. (h.line, h.element))
concluded_in_bounds (Faulty fault) s h = (h.line, h.element)
concluded_in_bounds Comment s h = (h.line, h.element)
concluded_in_bounds (Named k) s h = (h.line, h.element)
concluded_in_bounds (Value n) s h = (h.line, h.element)

-- what a file gives: elements within their types, or a line and an element of its own
pub parsed_in_bounds : (text : List ℕ) → InBounds (parsed text)
unfolding parsed
parsed_in_bounds text =
    choice InBounds (ltb 65_535 (length text)) (λ t. (lit≤ tt, zero-le))
    (λ t.
    let a = after_consistent 0 start text start_consistent in
    concluded_in_bounds _ _ (record { line = omega (arith, ltb-false 65_535 (length text) t); element = a.element; place = a.place; elements = a.elements }))
