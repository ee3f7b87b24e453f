-- Scale figures by calls, from 48 zero bytes on. Assumes nothing.
use Rattle.std.specs.Prelude.{◌≡◌, ℕ, take, replicate}
use mathlib.Core.List.{List, foldl}
use Rattle.scale.specs.Figures.{figures_of}
use Rattle.scale.specs.Files.{Given, accepted}
use Rattle.figures_buffer.specs.FigureBytes.{figures_bytes}
use Rattle.yurdelmiz.specs.Calls.{scale_call}

-- the buffer after a call
abbrev pub scaled_buffer : List ℕ → Given → List ℕ
scaled_buffer figures g = (scale_call figures g.buffer g.size).answer

-- after calls with any files it has the sums over the training labels of those that are accepted, the first 1,000 of them (theorem
-- `scaled_files`)
abbrev pub ScaledFiles : Type 0
ScaledFiles = (gs : List Given) → foldl scaled_buffer (replicate 48 0) gs ≡ figures_bytes (figures_of (take 1_000 (accepted gs)))
