-- What the functions owe. Assumes nothing.
use Rattle.std.specs.Prelude.{◌≡◌, cond, ℕ, ◌*◌, ◌-◌, ◌≤◌, ◌<◌, List, ltb, take, drop, None, Option, Some}
use Rattle.label_file.specs.File.{longest}

-- of the first bytes of a window all are kept where it has room for more, else the last, as many as the longest file has
pub record RoomMade (before : List ℕ) (end : ℕ) (after : List ℕ) (r : ℕ) : Type 0 where
  pub room : r < 2 * longest
  pub size_is : r ≡ cond (ltb end (2 * longest)) end longest
  pub kept : take r after ≡ drop (end - r) (take end before)

-- what was read ends within so many bytes
abbrev pub EndsWithin : ℕ → Option ℕ → Type 0
EndsWithin size (Some end) = end ≤ size
EndsWithin size None = Unit {0}
