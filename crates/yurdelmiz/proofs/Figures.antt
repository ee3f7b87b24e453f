-- A figure that the trailer may not hold, as the outcome of a call. Assumes nothing.
use mathlib.Core.Path.{◌≡◌, refl}
use Rattle.std.specs.Prelude.{ℕ, Option, Some, None, Ok}
use Rattle.std.specs.Option.{unwrap_or}
use Rattle.endian.specs.LittleEndian.{bytes4}
use Rattle.statuses.specs.Call.{given}
use Rattle.buffers.specs.Answers.{not_held}
use Rattle.yurdelmiz.specs.Calls.{dark_test_outcome}

pub figure_is : (labels : Option ℕ) → dark_test_outcome (Ok labels) ≡ given (bytes4 (unwrap_or labels 4_294_967_295))
unfolding not_held
figure_is None = refl
figure_is (Some labels) = refl
