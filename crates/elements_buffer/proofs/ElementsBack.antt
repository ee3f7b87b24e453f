-- Elements and their bytes. Assumes nothing.
use mathlib.Core.Path.{◌≡◌}
use Prim.Native.Nat.{ℕ, ◌+◌, ◌<◌}
use native.Mathlib.Omega.{arith}
use mathlib.Core.List.{List, ◌++◌}
use lib.ListN.{get_or}
use mir.Syntax.{w32}
use mir.Val.{SFits, to_z}
use mir.Facts.{sfits_to_z}
use Rattle.endian.specs.LittleEndian.{le4, le8, bytes4, bytes8, words}
use Rattle.endian.proofs.RoundTrip.{back4, back_i32, back_i64}
use Rattle.elements.specs.declared.Elements.{Elements}
use Rattle.elements.specs.Contract.{Held}
use Rattle.elements_buffer.specs.Buffer.{elements_bytes, elements_of}

-- the bytes of elements within their types say them again, whatever follows
pub elements_back : (el : Elements) (rest : List ℕ) → Held el → elements_of (elements_bytes el ++ rest) ≡ el
unfolding elements_of elements_bytes words bytes8 bytes4
elements_back el rest h =
    λ i. record {
      epoch = back_i64 el.epoch h.epoch i;
      eccentricity = back4 el.eccentricity h.eccentricity i;
      semi_major_axis = back4 el.semi_major_axis h.semi_major_axis i;
      inclination = back4 el.inclination h.inclination i;
      node = back4 el.node h.node i;
      argument_of_perigee = back4 el.argument_of_perigee h.argument_of_perigee i;
      mean_anomaly = back4 el.mean_anomaly h.mean_anomaly i;
      mean_motion = back4 el.mean_motion h.mean_motion i;
      node_rate = back_i32 el.node_rate h.node_rate i;
      perigee_rate = back_i32 el.perigee_rate h.perigee_rate i;
      epoch_revolution = back4 el.epoch_revolution h.epoch_revolution i;
      half_mean_motion_derivative = back_i32 el.half_mean_motion_derivative h.derivative i;
    }

-- ---- what bytes say lies within its type

module _ (bytes : List ℕ) (below : (i : ℕ) → get_or bytes i 0 < 256) where
  four : (at : ℕ) → le4 bytes at < 4294967296
  four at = omega (arith, below at, below (at + 1), below (at + 2), below (at + 3))

  signed : (at : ℕ) → SFits w32 (to_z w32 (le4 bytes at))
  signed at = sfits_to_z (record { fits = four at })

  pub elements_held : Held (elements_of bytes)
  unfolding elements_of
  elements_held =
      let low = four 0 in
      let high = four 4 in
      record {
        eccentricity = four 8;
        semi_major_axis = four 12;
        inclination = four 16;
        node = four 20;
        argument_of_perigee = four 24;
        mean_anomaly = four 28;
        mean_motion = four 32;
        node_rate = signed 36;
        perigee_rate = signed 40;
        epoch_revolution = four 44;
        epoch = sfits_to_z {n = le8 bytes 0} (record { fits = omega arith });
        derivative = signed 48;
      }
