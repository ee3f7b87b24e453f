-- The scalar product with a direction: document 01, "Sun and shade". Assumes nothing.
use Rattle.std.specs.Prelude.{◌^◌, ℤ, pos, ◌+ℤ◌, ◌*ℤ◌}
use Rattle.std.specs.Int.Signed.{quot_z}
use Rattle.sun.specs.declared.Direction.{Direction}

-- ((x, y, z) · direction)/2^30, cut toward zero
unfoldable pub dot_of : ℤ → ℤ → ℤ → Direction → ℤ
dot_of x y z d = quot_z (x *ℤ d.x +ℤ y *ℤ d.y +ℤ z *ℤ d.z) (pos (2 ^ 30))
