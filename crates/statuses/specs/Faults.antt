-- What an elements file breaks, and where: include/yurdelmiz.h. Assumes nothing.
use Rattle.std.specs.Prelude.{ℕ, ◌+◌, ◌*◌, ◌^◌}
use Rattle.elements_file.specs.declared.Fault.{Fault}
use Rattle.elements_file.specs.declared.Fault.TheVariants.{Name, Extra, ControlByte, DecimalPoint, NotWhole, TooLarge, Unended, Missing, TooLong}

-- no refusals of document 01's table
abbrev pub fault_number : Fault → ℕ
-- the line does not begin with the name of the element that is due, and a space
fault_number Name = 101
-- a further line after the last element
fault_number Extra = 102
-- a byte below 32, as a tab or a carriage return, outside a comment
fault_number ControlByte = 103
-- a decimal point in a number
fault_number DecimalPoint = 104
-- no whole number, something behind it, or a minus that the element does not take
fault_number NotWhole = 105
-- a number that its element does not hold
fault_number TooLarge = 106
-- the file ends within a line
fault_number Unended = 107
-- the file ends before its last element
fault_number Missing = 108
-- more than 65,535 bytes
fault_number TooLong = 109

-- the line from 1 in the lower 24 bits, the number from 0 of the element that was due there above them
abbrev pub fault_place : ℕ → ℕ → ℕ
fault_place line element = line + 2 ^ 24 * element
