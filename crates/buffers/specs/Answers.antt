-- The bytes of answers: include/yurdelmiz.h. Assumes nothing.
use Rattle.std.specs.Prelude.{ℕ, ◌-◌, ◌^◌, List, [], ◌∷◌, ◌++◌, nat_abs}
use Rattle.std.specs.Int.{w32, w64}
use Rattle.std.proofs.Common.{of_z}
use Rattle.endian.specs.LittleEndian.{bytes4, bytes8, words}
use Rattle.kepler.specs.declared.Anomaly.{Anomaly}
use Rattle.trailer.specs.Trailer.{trailer_size}
use Rattle.trailer.specs.declared.Counts.{Counts}
use Rattle.trailer.specs.declared.Form.{Form}
use Rattle.orbit.specs.declared.State.{State}
use Rattle.position.specs.declared.Position.{Position}
use Rattle.sun.specs.declared.Sun.{Sun}

-- 8 bytes: E, and the halvings made
unfoldable pub anomaly_bytes : Anomaly → List ℕ
anomaly_bytes r = words (r.angle ∷ r.halvings ∷ [])

-- 28 bytes: MA, ML, TL, GHAA, and the direction
unfoldable pub sun_bytes : Sun → List ℕ
sun_bytes s =
    words
    (s.mean_anomaly
    ∷ s.mean_longitude
    ∷ s.true_longitude
    ∷ s.greenwich_hour_angle
    ∷ of_z w32 s.direction.x
    ∷ of_z w32 s.direction.y
    ∷ of_z w32 s.direction.z
    ∷ [])

-- 24 bytes: x, y, z
unfoldable pub position_bytes : Position → List ℕ
position_bytes p = bytes8 (of_z w64 p.x) ++ bytes8 (of_z w64 p.y) ++ bytes8 (of_z w64 p.z)

-- 68 bytes: the revolution, E with the halvings made, the radius, the celestial position, the node as drifted, the Earth-fixed position.
-- The radius is nowhere negative: it is not below the perigee distance.
unfoldable pub state_bytes : State → Position → List ℕ
state_bytes s earth_fixed =
    words (of_z w32 s.revolution ∷ s.anomaly.angle ∷ s.anomaly.halvings ∷ nat_abs s.radius ∷ [])
    ++ position_bytes s.position
    ++ bytes4 s.node
    ++ position_bytes earth_fixed

-- 20 bytes: labels, training labels, test labels, dark labels, dark test labels
unfoldable pub counts_bytes : Counts → List ℕ
counts_bytes c = words (c.labels ∷ c.training ∷ c.test ∷ c.dark ∷ c.dark_test ∷ [])

-- 24 bytes: the counts, and the bytes of the file's trailer
unfoldable pub read_bytes : Form → Counts → List ℕ
read_bytes form c = counts_bytes c ++ bytes4 (trailer_size form)

-- 28 bytes: where the file ends, and the counts
unfoldable pub add_bytes : Counts → ℕ → List ℕ
add_bytes c size = bytes8 size ++ counts_bytes c

-- 12 bytes: the labels kept, and the bytes dropped
unfoldable pub salvage_bytes : ℕ → ℕ → List ℕ
salvage_bytes labels dropped = bytes4 labels ++ bytes8 dropped

-- 12 bytes: where a row begins in its table, and which table that is
unfoldable pub found_bytes : ℕ → ℕ → List ℕ
found_bytes offset table = bytes8 offset ++ bytes4 table

-- in place of a figure that a file's trailer does not hold
unfoldable pub not_held : ℕ
not_held = 2 ^ 32 - 1
