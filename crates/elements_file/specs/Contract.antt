-- What the reader's functions owe one another. Assumes nothing.
use Rattle.std.specs.Prelude.{ℕ, ◌+◌, ◌≤◌, ◌<◌, Err, Ok, Result}
use Rattle.elements.specs.Contract.{Held}
use Rattle.elements_file.specs.Numbers.{largest, magnitude_of}
use Rattle.elements_file.specs.declared.Progress.{Progress}
use Rattle.elements_file.specs.declared.line.Place.{Place}
use Rattle.elements_file.specs.declared.line.Place.TheVariants.{Start, Comment, Named, Value, Faulty}
use Rattle.elements_file.specs.declared.number.Number.{Number}
use Rattle.elements.specs.declared.Elements.{Elements}
use Rattle.elements_file.specs.declared.Malformed.{Malformed}

-- an element of the file, and a place in the names
pub record NameAt (element k : ℕ) : Type 0 where
  pub due : element < 12
  pub place : k ≤ 336

-- a line with a name has an element that is due, and holds the number so far
abbrev pub Fitting : ℕ → Place → Type 0
Fitting element Start = Unit {0}
Fitting element Comment = Unit {0}
Fitting element (Named k) = NameAt element k
Fitting element (Value n) = (element < 12) × (magnitude_of n ≤ largest element n.negative)
Fitting element (Faulty fault) = Unit {0}

-- a number that the element due holds, with another line to count
pub record Due (s : Progress) (n : Number) : Type 0 where
  pub line : s.line ≤ 65_535
  pub element : s.element < 12
  pub held : magnitude_of n ≤ largest s.element n.negative

-- after some number of bytes: no more lines than those, a number that its element holds, and elements within their types
pub record Consistent (bytes : ℕ) (s : Progress) : Type 0 where
  pub line : s.line ≤ bytes + 1
  pub element : s.element ≤ 12
  pub place : Fitting s.element s.place
  pub elements : Held s.elements

-- elements within their types, or a line and an element that the file has
abbrev pub InBounds : Result Elements Malformed → Type 0
InBounds (Ok el) = Held el
InBounds (Err malformed) = (malformed.line ≤ 65_536) × (malformed.element ≤ 12)
