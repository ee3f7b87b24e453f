-- The digit-by-digit method of the whole square root. Assumes nothing.
use mathlib.Core.Path.{◌≡◌}
use Prim.Native.Nat.{ℕ, zero, suc, ◌+◌, ◌*◌, ◌^◌, ◌≤◌, ◌<◌}
use native.Mathlib.Nat.{lt_of_lt_of_le, mul_assoc, pow-suc}
use native.Mathlib.Numerals.{add-one}
use native.Mathlib.Omega.{arith}
use lib.Pow.{pow_mono}
use Rattle.integer.specs.declared.PartialRoot.{PartialRoot}
use Rattle.integer.specs.Root.{root}
use Rattle.integer.specs.Contract.{brought_down, RootSoFar, BitAdded}
use Rattle.integer.proofs.Ring.{ring}
use Rattle.integer.proofs.Root.{root_of_sum}

-- ---- a round
-- the square of the root with its next bit
square_next : (r bit : ℕ) → bit ≤ 1 → (2 * r + bit) * (2 * r + bit) ≡ 4 * (r * r) + bit * (4 * r + 1)
square_next r zero h = simp ring (omega arith)
square_next r (suc zero) h = simp ring (omega arith)
square_next r (suc (suc bit)) h = absurd (omega arith)

-- the root's next bit takes the trial subtrahend 4·root + 1 off what is left, or nothing
pub bit_added : (p r : PartialRoot) (pair bit : ℕ) → bit ≤ 1 → r.root ≡ 2 * p.root + bit
    → r.remainder + bit * (4 * p.root + 1) ≡ 4 * p.remainder + pair → r.remainder ≤ 2 * r.root → BitAdded p pair r
bit_added p r pair bit h e f l =
    record {
      pair_down = rw (e, square_next p.root bit h) (omega arith);
      root_so_far = root_of_sum r.root r.remainder l;
      one_bit = omega arith;
    }

-- ---- all rounds: n, shifted by two bits a round, is the bits brought down with the rest in 64 bits behind them
pub record AfterRounds (n : ℕ) (p : PartialRoot) (rest k : ℕ) : Type 0 where
  pub shifted : n * 4 ^ k ≡ brought_down p * 2 ^ 64 + rest
  pub rest_fits : rest < 2 ^ 64
  pub root_so_far : RootSoFar p
  pub root_bits : p.root < 2 ^ k

pub no_round : (n : ℕ) (p : PartialRoot) → n < 2 ^ 64 → p.root ≡ 0 → p.remainder ≡ 0 → AfterRounds n p n 0
no_round n p h e f =
    record {
      shifted = rw (e, f) (omega arith);
      rest_fits = h;
      root_so_far = root_of_sum p.root p.remainder (omega arith);
      root_bits = omega arith;
    }

-- the two highest bits of the rest are shifted out of it, and brought down
pub one_round : (n rest next k pair : ℕ) (p r : PartialRoot) → AfterRounds n p rest k → BitAdded p pair r
    → rest * 4 ≡ pair * 2 ^ 64 + next → next < 2 ^ 64 → AfterRounds n r next (k + 1)
one_round n rest next k pair p r a b e f =
    record {
      shifted = rw (add-one, pow-suc 4 k, b.pair_down) (omega (arith, mul_assoc n (4 ^ k) 4));
      rest_fits = f;
      root_so_far = b.root_so_far;
      root_bits = rw (add-one, pow-suc 2 k) (omega arith);
    }

-- the root has room for the next bit
pub room : (n rest k : ℕ) (p : PartialRoot) → AfterRounds n p rest k → k ≤ 31 → p.root < 2 ^ 31
room n rest k p a h = lt_of_lt_of_le a.root_bits (pow_mono h)

pub all_rounds : (n rest k : ℕ) (p : PartialRoot) → AfterRounds n p rest k → k ≡ 32 → (p.root ≡ root n) × (p.root < 2 ^ 32)
all_rounds n rest k p a e =
    let s = rw e at a.shifted in
    let d : brought_down p ≡ n = omega arith in
    (rw d at a.root_so_far, rw e at a.root_bits)
