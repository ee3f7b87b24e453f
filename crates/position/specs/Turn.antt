-- The turns of a position: document 01, "From elements to position". Quotients are cut toward zero. Assumes nothing.
use Rattle.std.specs.Prelude.{ℕ, ◌^◌, ℤ, pos, ◌+ℤ◌, ◌-ℤ◌, ◌*ℤ◌}
use Rattle.std.specs.Int.Signed.{quot_z}
use Rattle.trig.specs.Sine.{S, C}
use Rattle.position.specs.declared.Position.{Position}

-- (a·b − c·d)/2^30 and (a·b + c·d)/2^30: a sine or a cosine stands in each product
abbrev pub scaled_difference : ℤ → ℤ → ℤ → ℤ → ℤ
scaled_difference a b c d = quot_z (a *ℤ b -ℤ c *ℤ d) (pos (2 ^ 30))

abbrev pub scaled_sum : ℤ → ℤ → ℤ → ℤ → ℤ
scaled_sum a b c d = quot_z (a *ℤ b +ℤ c *ℤ d) (pos (2 ^ 30))

-- turn (x, y) by an angle: x' = (x·C − y·S)/2^30
unfoldable pub turned_first : ℤ → ℤ → ℕ → ℤ
turned_first x y angle = scaled_difference x (C angle) y (S angle)

-- y' = (x·S + y·C)/2^30
unfoldable pub turned_second : ℤ → ℤ → ℕ → ℤ
turned_second x y angle = scaled_sum x (S angle) y (C angle)

-- the turn of (x, y)
abbrev pub turned_xy : Position → ℕ → Position
turned_xy p angle =
    record { x = turned_first p.x p.y angle; y = turned_second p.x p.y angle; z = p.z }

-- the turn of (y, z)
abbrev pub turned_yz : Position → ℕ → Position
turned_yz p angle =
    record { x = p.x; y = turned_first p.y p.z angle; z = turned_second p.y p.z angle }

-- the celestial position, from (X, Y, 0): turn (x, y) by the perigee argument, (y, z) by the inclination, (x, y) by the node
unfoldable pub celestial_of : Position → ℕ → ℕ → ℕ → Position
celestial_of p argument_of_perigee inclination node =
    turned_xy (turned_yz (turned_xy p argument_of_perigee) inclination) node

-- Earth-fixed, with the angle GHAA: x' = (C·x + S·y)/2^30, y' = (C·y − S·x)/2^30
unfoldable pub earth_fixed_of : Position → ℕ → Position
earth_fixed_of p ghaa =
    record {
      x = scaled_sum (C ghaa) p.x (S ghaa) p.y;
      y = scaled_difference (C ghaa) p.y (S ghaa) p.x;
      z = p.z;
    }
