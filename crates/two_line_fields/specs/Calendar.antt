-- Years and their days: document 01, "Two-line elements". A year's days count from its Jan 0.0. Assumes nothing.
use Rattle.std.specs.Prelude.{ℕ, ◌+◌, ◌*◌, ◌-◌, ◌/◌, ◌%◌, cond, eqb, ltb}

-- of two digits: 57 to 99 are 1957 to 1999, 00 to 56 are 2000 to 2056
abbrev pub full_year : ℕ → ℕ
full_year digits = cond (ltb digits 57) (2000 + digits) (1900 + digits)

-- from 1957 to 2056 every fourth year is a leap year, 2000 too
abbrev pub days_in : ℕ → ℕ
days_in year = cond (eqb (year % 4) 0) 366 365

-- the days from 1957 Jan 0.0 to Jan 0.0 of a later year: a leap day for each fourth year between them (law `one_year_on`)
abbrev pub days_before : ℕ → ℕ
days_before year = 365 * (year - 1957) + (year - 1957) / 4
