use Prim.Native.Nat.{◌≤◌}
use Rattle.integer.proofs.DigitByDigit.{AfterRounds}
use Rattle.integer.proofs.square_root.Given as goal

abbrev pub invariant-loop : goal.invariant-loop
invariant-loop l = AfterRounds l.n l.partial l.rest l.counter × (l.counter ≤ 32)
