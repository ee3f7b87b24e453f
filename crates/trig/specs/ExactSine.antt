-- The exact sine over whole numbers, and how near to it a sine is: document 01, "The sheet sine". Assumes nothing.
use Rattle.std.specs.Prelude.{ℕ, zero, suc, ◌+◌, ◌*◌, ◌-◌, ◌/◌, ◌^◌, ◌≤◌, ◌≡◌, ℤ, pos, negsuc}
use Rattle.integer.specs.Bound.{Within}
use Rattle.trig.specs.Sine.{by_symmetry, S}

-- the two ends of π, each times 10^20
abbrev pub pi_low : ℕ
pi_low = 314_159_265_358_979_323_846

abbrev pub pi_high : ℕ
pi_high = 314_159_265_358_979_323_847

-- x = r·π / 2^31, uncut, is N / D with N = r·(π·10^20) and D = 2^31·10^20
abbrev pub D : ℕ
D = 2 ^ 31 * 10 ^ 20

abbrev pub factorial : ℕ → ℕ
factorial zero = 1
factorial (suc n) = suc n * factorial n

-- the denominator of a Taylor sum whose last term is that of x^top
abbrev pub denominator : ℕ → ℕ
denominator top = factorial top * D ^ top

-- x^k / k! over that denominator
abbrev pub term : ℕ → ℕ → ℕ → ℕ
term top N k = N ^ k * (D ^ (top - k) * (factorial top / factorial k))

-- x + x^5/5! + x^9/9! + x^13/13! + x^17/17!
unfoldable pub plus : ℕ → ℕ → ℕ
plus top N = term top N 1 + term top N 5 + term top N 9 + term top N 13 + term top N 17

-- x^3/3! + x^7/7! + x^11/11! + x^15/15!
unfoldable pub minus : ℕ → ℕ → ℕ
minus top N = term top N 3 + term top N 7 + term top N 11 + term top N 15

-- the number (p - m) / d
pub record Fraction : Type 0 where
  pub p : ℕ
  pub m : ℕ
  pub d : ℕ

abbrev pub opposite : Fraction → Fraction
opposite f = record { p = f.m; m = f.p; d = f.d }

-- in the first quarter: the sum that ends with the x^19 term, at the lower π
unfoldable pub quarter_end19 : ℕ → Fraction
quarter_end19 r = record { p = plus 19 (r * pi_low); m = minus 19 (r * pi_low) + term 19 (r * pi_low) 19; d = denominator 19 }

-- and the sum that ends with the x^17 term, at the upper π
unfoldable pub quarter_end17 : ℕ → Fraction
quarter_end17 r = record { p = plus 17 (r * pi_high); m = minus 17 (r * pi_high); d = denominator 17 }

-- the two ends of the exact sine of any angle, by symmetry
unfoldable pub end19 : ℕ → Fraction
end19 a = by_symmetry a (λ r. quarter_end19 r) (λ r. opposite (quarter_end19 r))

unfoldable pub end17 : ℕ → Fraction
end17 a = by_symmetry a (λ r. quarter_end17 r) (λ r. opposite (quarter_end17 r))

-- s units of 2^-30 are within 4 units of f; both sides times f's denominator
pub record Near (s : ℕ) (f : Fraction) : Type 0 where
  -- s ≤ 2^30·(p - m)/d + 4
  pub not_above : s * f.d + 2 ^ 30 * f.m ≤ 2 ^ 30 * f.p + 4 * f.d
  -- 2^30·(p - m)/d ≤ s + 4
  pub not_below : 2 ^ 30 * f.p ≤ s * f.d + 2 ^ 30 * f.m + 4 * f.d

-- the same of a signed number: -s is near f where s is near -f
abbrev pub NearZ : ℤ → Fraction → Type 0
NearZ (pos s) f = Near s f
NearZ (negsuc n) f = Near (suc n) (opposite f)

-- z is within 4 units of both ends of the exact sine of the angle a
pub record NearSine (a : ℕ) (z : ℤ) : Type 0 where
  pub to19 : NearZ z (end19 a)
  pub to17 : NearZ z (end17 a)

-- what the sine of an angle owes
pub record SineAt (a : ℕ) (z : ℤ) : Type 0 where
  pub is : z ≡ S a
  pub small : Within (2 ^ 30) z
  pub near : NearSine a z
