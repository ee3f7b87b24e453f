-- The status of a refusal that has a place: include/yurdelmiz.h. Assumes nothing.
use Rattle.std.specs.Prelude.{ℕ, ◌+◌, ◌*◌, ◌^◌}

-- the number in the lower half, the place in the upper
abbrev pub status_at : ℕ → ℕ → ℕ
status_at number place = number + 2 ^ 32 * place
