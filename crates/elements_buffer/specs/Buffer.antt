-- Elements in 52 bytes: document 01, "Tables of element sets", and `elements` of include/yurdelmiz.h. Assumes nothing.
use Rattle.std.specs.Prelude.{ℕ, List, [], ◌∷◌, ◌++◌}
use Rattle.std.specs.Int.{w32, w64}
use Rattle.std.proofs.Common.{of_z, to_z}
use Rattle.endian.specs.LittleEndian.{le4, le8, bytes8, words}
use Rattle.elements.specs.declared.Elements.{Elements}

-- the elements of the first 52 bytes: the epoch in 8, then in 4 each e, a, inclination, node, argument of perigee, M0, n, node rate, perigee
-- rate, epoch revolution and d
unfoldable pub elements_of : List ℕ → Elements
elements_of bytes =
    record {
      epoch = to_z w64 (le8 bytes 0);
      eccentricity = le4 bytes 8;
      semi_major_axis = le4 bytes 12;
      inclination = le4 bytes 16;
      node = le4 bytes 20;
      argument_of_perigee = le4 bytes 24;
      mean_anomaly = le4 bytes 28;
      mean_motion = le4 bytes 32;
      node_rate = to_z w32 (le4 bytes 36);
      perigee_rate = to_z w32 (le4 bytes 40);
      epoch_revolution = le4 bytes 44;
      half_mean_motion_derivative = to_z w32 (le4 bytes 48);
    }

-- the bytes of elements
unfoldable pub elements_bytes : Elements → List ℕ
elements_bytes el =
    bytes8 (of_z w64 el.epoch)
    ++ words
    (el.eccentricity
    ∷ el.semi_major_axis
    ∷ el.inclination
    ∷ el.node
    ∷ el.argument_of_perigee
    ∷ el.mean_anomaly
    ∷ el.mean_motion
    ∷ of_z w32 el.node_rate
    ∷ of_z w32 el.perigee_rate
    ∷ el.epoch_revolution
    ∷ of_z w32 el.half_mean_motion_derivative
    ∷ [])
