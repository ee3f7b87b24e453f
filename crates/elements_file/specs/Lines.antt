-- What a byte does to the line that it stands in. Assumes nothing.
use Rattle.std.specs.Prelude.{ℕ, ◌+◌, ◌-◌, cond, eqb, ltb, leb}
use Rattle.digit.specs.Digit.{is_digit}
use Rattle.elements_file.specs.Names.{name_byte}
use Rattle.elements_file.specs.Numbers.{largest, magnitude_of, unwritten, minus, takes_minus, grown}
use Rattle.elements_file.specs.declared.Fault.{Fault}
use Rattle.elements_file.specs.declared.Fault.TheVariants.{Name, Extra, ControlByte, DecimalPoint, NotWhole, TooLarge}
use Rattle.elements_file.specs.declared.line.Place.{Place}
use Rattle.elements_file.specs.declared.line.Place.TheVariants.{Start, Comment, Named, Value, Faulty}
use Rattle.elements_file.specs.declared.number.Number.{Number}

-- a byte that may not stand here: a control byte is told as one
unfoldable pub refused : ℕ → Fault → Place
refused byte fault = Faulty (cond (ltb byte 32) ControlByte fault)

-- the name that is due byte by byte, then one space
unfoldable pub named : ℕ → ℕ → ℕ → Place
named element k byte =
    cond (eqb byte (name_byte element k)) (cond (eqb byte 32) (Value unwritten) (Named (k + 1)))
    (refused byte Name)

-- a number as far as its element holds it
unfoldable pub counted : ℕ → Number → Place
counted element n = cond (leb (magnitude_of n) (largest element n.negative)) (Value n) (Faulty TooLarge)

-- a minus where the element may have one, then digits
unfoldable pub valued : ℕ → Number → ℕ → Place
valued element n byte =
    cond (is_digit byte) (counted element (grown n (byte - 48)))
    -- "-"
    (cond (eqb byte 45) (cond (takes_minus element n) (Value minus) (Faulty NotWhole))
    -- "."
    (cond (eqb byte 46) (Faulty DecimalPoint)
    (refused byte NotWhole)))

-- a "#" at the start of a line, or the name of the element that is due
unfoldable pub begun : ℕ → ℕ → Place
begun element byte =
    cond (eqb byte 35) Comment
    (cond (eqb element 12) (refused byte Extra)
    (named element 0 byte))

-- what a byte that ends no line makes of the line so far; the first fault stands
unfoldable pub within : Place → ℕ → ℕ → Place
within Start element byte = begun element byte
within Comment element byte = Comment
within (Named k) element byte = named element k byte
within (Value n) element byte = valued element n byte
within (Faulty fault) element byte = Faulty fault
