-- Shade: document 01, "Sun and shade", and refusal 14. Assumes nothing.
use Rattle.std.specs.Prelude.{Bool, ◌||◌, cond, ℕ, ◌^◌, ltb, ℤ, pos, neg_ℤ, nat_abs, ◌+ℤ◌, ◌-ℤ◌, ◌*ℤ◌, Err, Ok, Result}
use Rattle.std.specs.Int.Signed.{lt_z, quot_z}
use Rattle.refusal.specs.declared.Refusal.TheVariants.{Component}
use Rattle.position.specs.declared.Position.{Position}
use Rattle.sun.specs.declared.Direction.{Direction}
use Rattle.eclipse.specs.Dot.{dot_of}
use Rattle.shade.specs.declared.Shade.{Shade}
use Rattle.shade.specs.declared.Shade.TheVariants.{Lit, Dark, Part}
use Rattle.refusal.specs.declared.Refusal.{Refusal}

-- p = (position · Sun)/2^30, below zero behind the Earth
abbrev pub projection : Position → Direction → ℤ
projection q sun = dot_of q.x q.y q.z sun

-- side² = x² + y² + z² − p²
unfoldable pub side_squared : Position → ℤ → ℤ
side_squared q p = q.x *ℤ q.x +ℤ q.y *ℤ q.y +ℤ q.z *ℤ q.z -ℤ p *ℤ p

-- D·k/149,600,000,000, cut toward zero: the Sun is a ball of 696,000,000 m at 149,600,000,000 m, and k its radius less the Earth's, or the two together
unfoldable pub spread : ℤ → ℤ → ℤ
spread d k = quot_z (d *ℤ k) (pos 149_600_000_000)

-- the umbra's radius at depth D: 6,378,000 − D·689,622,000/149,600,000,000
unfoldable pub umbra_radius : ℤ → ℤ
umbra_radius d = pos 6_378_000 -ℤ spread d (pos 689_622_000)

-- the penumbra's: 6,378,000 + D·702,378,000/149,600,000,000
unfoldable pub penumbra_radius : ℤ → ℤ
penumbra_radius d = pos 6_378_000 +ℤ spread d (pos 702_378_000)

-- side² is below the square of a radius
unfoldable pub below_square : ℤ → ℤ → Bool
below_square side² radius = lt_z side² (radius *ℤ radius)

-- dark when side² is below the square of the umbra's radius; otherwise part when it is below the square of the penumbra's; otherwise lit
unfoldable pub shade_behind : ℤ → ℤ → Shade
shade_behind d side² = cond (below_square side² (umbra_radius d)) Dark (cond (below_square side² (penumbra_radius d)) Part Lit)

-- with p < 0, D = −p and side² = x² + y² + z² − p²; lit where p is not below zero
unfoldable pub shade_of : Position → Direction → Shade
shade_of q sun = let p = projection q sun in cond (lt_z p (pos 0)) (shade_behind (neg_ℤ p) (side_squared q p)) Lit

-- one of three components is beyond ±bound
unfoldable pub any_beyond : ℕ → ℤ → ℤ → ℤ → Bool
any_beyond bound x y z = ltb bound (nat_abs x) || (ltb bound (nat_abs y) || ltb bound (nat_abs z))

-- 14: a position component beyond ±200,000,000 or a Sun component beyond ±2^30
unfoldable pub out_of_range : Position → Direction → Bool
out_of_range q sun = any_beyond 200_000_000 q.x q.y q.z || any_beyond (2 ^ 30) sun.x sun.y sun.z

-- the shade test alone
unfoldable pub shade_answer : Position → Direction → Result Shade Refusal
shade_answer q sun = cond (out_of_range q sun) (Err Component) (Ok (shade_of q sun))
