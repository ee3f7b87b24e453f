use mathlib.Core.Path.{◌≡◌}
use lib.ListN.{drop}
use Rattle.elements_file.specs.Reading.{start, after_bytes}
use Rattle.elements_file.specs.Contract.{Consistent}
use Rattle.elements_file.proofs.parse.Given as goal

abbrev pub invariant-loop-byte : goal.invariant-loop-byte
invariant-loop-byte l = Consistent l.byte-index l.s × (after_bytes l.s (drop l.byte-index l.text) ≡ after_bytes start l.text)
