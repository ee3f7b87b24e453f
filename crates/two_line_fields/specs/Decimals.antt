-- The number that stands in some columns of a line: document 01, "Two-line elements". Assumes nothing.
use Rattle.std.specs.Prelude.{ℕ, zero, suc, ◌+◌, ◌*◌, ◌-◌, Bool, false, not, ◌&&◌, ◌||◌, cond, List, eqb, get_or, Option, Some, None, option_and_then}
use Rattle.digit.specs.Digit.{is_digit, digit_value}
use Rattle.two_line_fields.specs.declared.Layout.{Layout}

-- the byte of a column, 0 where the line has none
abbrev pub byte_of : List ℕ → ℕ → ℕ
byte_of line column = get_or line (column - 1) 0

-- a number in units of its last digit
abbrev pub number : ℕ → Option ℕ
number m = Some m

-- no number
abbrev pub bad : Option ℕ
bad = None

-- a digit, or " " where blanks may lead
abbrev pub digit_or_blank : Bool → ℕ → Bool
digit_or_blank leading byte = is_digit byte || (leading && eqb byte 32)

-- up to the first digit
abbrev pub leads_on : Bool → ℕ → Bool
leads_on leading byte = leading && not (is_digit byte)

-- what n columns make of the number m ahead of them: each a digit, or a leading blank, which stands for 0
unfoldable pub further : List ℕ → ℕ → ℕ → Bool → ℕ → Option ℕ
further line column zero leading m = number m
further line column (suc n) leading m =
    let byte = byte_of line column in
    cond (digit_or_blank leading byte) (further line (column + 1) n (leads_on leading byte) (10 * m + digit_value byte))
    bad

-- a sign is a blank, a plus or a minus
abbrev pub is_sign : ℕ → Bool
is_sign byte = eqb byte 32 || (eqb byte 43 || eqb byte 45)

-- a sign or the point stands in one column where the layout has it, and in none where not
abbrev pub width : Bool → ℕ
width stands = cond stands 1 0

-- the columns of a layout from a column on: the sign, those ahead of the point, the point, those behind it
unfoldable pub decimal_of : List ℕ → ℕ → Layout → Option ℕ
decimal_of line column l =
    let ahead = column + width l.sign in
    let point = ahead + l.ahead in
    let behind = point + width l.point in
    cond (l.sign && not (is_sign (byte_of line column))) bad
    -- "."
    (cond (l.point && not (eqb (byte_of line point) 46)) bad
    (option_and_then (further line behind l.behind false) (further line ahead l.ahead l.blanks 0)))
