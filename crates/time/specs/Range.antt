-- The range of epochs and times: document 01, "When the build says no", number 8. Assumes nothing.
use Rattle.std.specs.Prelude.{Bool, ◌&&◌, ℤ, pos, neg_ℤ}
use Rattle.std.specs.Int.Signed.{le_z}

-- from −2,834,956,800 to 3,476,476,799, in seconds from 1990 Jan 0.0
unfoldable pub in_range : ℤ → Bool
in_range time = le_z (neg_ℤ (pos 2_834_956_800)) time && le_z time (pos 3_476_476_799)
