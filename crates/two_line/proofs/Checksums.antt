-- How much the columns of a line count. Assumes nothing.
use mathlib.Core.Path.{◌≡◌, refl, sym, ◌∙◌}
use mathlib.Core.Bool.{Bool, true, false, cond}
use mathlib.Core.List.{List}
use Prim.Native.Nat.{ℕ, zero, suc, ◌+◌, ◌*◌, ◌-◌, ◌≤◌}
use native.Mathlib.Decide.{dec_le}
use native.Mathlib.Nat.{lt_of_not-le}
use native.Mathlib.Numerals.{add-one}
use native.Mathlib.Omega.{arith}
use lib.Dec.{eqb}
use lib.ListN.{length, get_or-eq_default, take}
use lib.Seq.{take_all}
use Rattle.std.specs.List.{sum_by}
use Rattle.std.proofs.lemmas.List.Sums.{sum_by_more}
use Rattle.digit.specs.Digit.{digit_value}
use Rattle.digit.proofs.Range.{digit_small}
use Rattle.two_line_fields.specs.Decimals.{byte_of}
use Rattle.two_line.specs.Lines.{weight, weight_to}

pub weight_small : (byte : ℕ) → weight byte ≤ 9
weight_small byte = either (eqb byte 45)
  where
    either : (t : Bool) → cond t 1 (digit_value byte) ≤ 9
    either true = omega arith
    either false = digit_small byte

pub weight_to_small : (line : List ℕ) (n : ℕ) → weight_to line n ≤ 9 * n
weight_to_small line zero = omega arith
weight_to_small line (suc n) = omega (arith, weight_to_small line n, weight_small (byte_of line (suc n)))

-- columns past the line's end count nothing
pub weights_summed : (line : List ℕ) (n : ℕ) → sum_by weight (take n line) ≡ weight_to line n
weights_summed line zero = refl
weights_summed line (suc n) = either (dec_le (n + 1) (length line)) (weights_summed line n)
  where
    here : suc n - 1 ≡ n
    here = omega arith

    either : Dec (n + 1 ≤ length line) → sum_by weight (take n line) ≡ weight_to line n → sum_by weight (take (suc n) line) ≡ weight_to line (suc n)
    either (yes l) before =
        let more = rw add-one at (sum_by_more weight line n 0 (omega arith)) in
        rw (here, ← before) more
    either (no g) before =
        let l = lt_of_not-le g in
        let past : length line ≤ n = omega arith in
        let all : take (suc n) line ≡ take n line = take_all (suc n) line (omega arith) ∙ sym (take_all n line past) in
        rw (here, get_or-eq_default line 0 past, all) (before ∙ omega arith)
