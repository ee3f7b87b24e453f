-- Numbers as an elements file writes them, and what each element holds. Assumes nothing.
use Rattle.std.specs.Prelude.{ℕ, ◌+◌, ◌*◌, ◌-◌, ◌^◌, Bool, true, false, ◌||◌, ◌&&◌, not, cond, eqb, Some, None, is_none, unwrap_or, ℤ, pos, neg_ℤ}
use Rattle.elements_file.specs.declared.number.Number.{Number}

-- the drift rates of the node and of the perigee, and half the derivative of the mean motion, in 32 bits
abbrev pub is_rate : ℕ → Bool
is_rate element = eqb element 7 || (eqb element 8 || eqb element 11)

-- the epoch, in 64 bits
abbrev pub is_epoch : ℕ → Bool
is_epoch element = eqb element 10

-- the elements that may be negative
abbrev pub is_signed : ℕ → Bool
is_signed element = is_rate element || is_epoch element

-- the largest magnitude of an element, with a minus and without
unfoldable pub largest : ℕ → Bool → ℕ
largest element negative =
    cond (is_epoch element) (cond negative (2 ^ 63) (2 ^ 63 - 1))
    (cond (is_rate element) (cond negative (2 ^ 31) (2 ^ 31 - 1))
    (2 ^ 32 - 1))

-- the digits' number, 0 where none stands
abbrev pub magnitude_of : Number → ℕ
magnitude_of n = unwrap_or n.magnitude 0

-- no digit yet, and no minus
abbrev pub unwritten : Number
unwritten = record { negative = false; magnitude = None }

-- a minus, with which a number may begin
abbrev pub minus : Number
minus = record { negative = true; magnitude = None }

-- a minus stands first, where the element may be negative
unfoldable pub takes_minus : ℕ → Number → Bool
takes_minus element n = not n.negative && is_none n.magnitude && is_signed element

-- a further digit
abbrev pub grown : Number → ℕ → Number
grown n digit = record { negative = n.negative; magnitude = Some (10 * magnitude_of n + digit) }

unfoldable pub signed_of : Number → ℤ
signed_of n = cond n.negative (neg_ℤ (pos (magnitude_of n))) (pos (magnitude_of n))
