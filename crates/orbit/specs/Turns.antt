-- Turns since the epoch, and drift: document 01, "From elements to position". Assumes nothing.
use Rattle.std.specs.Prelude.{ℕ, ◌*◌, ◌/◌, ◌^◌, ℤ, pos, ◌+ℤ◌, ◌-ℤ◌, ◌*ℤ◌}
use Rattle.integer.specs.Division.{floor_z, mod_z}
use Rattle.elements.specs.declared.Elements.{Elements}

-- Δ: the time less the epoch
abbrev pub elapsed_of : Elements → ℤ → ℤ
elapsed_of el t = t -ℤ el.epoch

-- w: n·Δ / 8,640,000,000,000 down
unfoldable pub whole_turns : ℕ → ℤ → ℤ
whole_turns n Δ = floor_z (pos n *ℤ Δ) 8_640_000_000_000

-- the part turn: m·2^17 / 263,671,875, where m is the remainder of w
unfoldable pub part_turn : ℕ → ℤ → ℕ
part_turn n Δ = mod_z (pos n *ℤ Δ) 8_640_000_000_000 * 2 ^ 17 / 263_671_875

-- w·2^32 plus the part turn
unfoldable pub linear_term : ℕ → ℤ → ℤ
linear_term n Δ = whole_turns n Δ *ℤ pos (2 ^ 32) +ℤ pos (part_turn n Δ)

-- what a mean motion that changes adds: d·Δ²·2^10 / 177,978,515,625 down, where d is half its first derivative
unfoldable pub quadratic_term : ℤ → ℤ → ℤ
quadratic_term d Δ = floor_z (d *ℤ Δ *ℤ Δ *ℤ pos (2 ^ 10)) 177_978_515_625

-- A: the sum of the two, before M0 is added
unfoldable pub advance : Elements → ℤ → ℤ
advance el t = linear_term el.mean_motion (elapsed_of el t) +ℤ quadratic_term el.half_mean_motion_derivative (elapsed_of el t)

-- M: M0 plus A; the sum wraps
unfoldable pub mean_anomaly : Elements → ℤ → ℕ
mean_anomaly el t = mod_z (pos el.mean_anomaly +ℤ advance el t) (2 ^ 32)

-- the drift before wrapping: rate·Δ·2^18 / 18,984,375 down
unfoldable pub drift : ℤ → ℤ → ℤ
drift rate Δ = floor_z (rate *ℤ Δ *ℤ pos (2 ^ 18)) 18_984_375

-- the node and the argument of perigee: the drift is added, and the sum wraps
unfoldable pub drifted : ℕ → ℤ → ℤ → ℕ
drifted angle rate Δ = mod_z (pos angle +ℤ drift rate Δ) (2 ^ 32)
