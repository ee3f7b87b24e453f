-- What the halving ends with: document 01, "Kepler's equation". Assumes nothing.
use Rattle.std.specs.Prelude.{ℕ, ◌+◌, ◌^◌, ◌<◌, ◌≤◌}
use Rattle.kepler.specs.Kepler.{equation, anomaly}

-- k(E) ≤ M < k(E + 1)
pub record Bracketed (e M E : ℕ) : Type 0 where
  pub from : equation e E ≤ M
  pub to : M < equation e (E + 1)

-- for every accepted eccentricity and every mean anomaly the halving ends with k(E) ≤ M < k(E + 1) (theorem `always_bracketed`). Beyond the
-- limit `equation` need not be k (law `k_signed`).
abbrev pub AlwaysBracketed : Type 0
AlwaysBracketed = (e M : ℕ) → e ≤ 9_000_000 → M < 2 ^ 32 → Bracketed e M (anomaly e M)
