-- The tests of order of signed numbers, as tests of their parts. Assumes nothing.
use mathlib.Core.Path.{◌≡◌, sym, ◌∙◌}
use Prim.Native.Nat.{suc, ◌+◌, ◌≤◌, ◌<◌}
use native.Mathlib.Nat.{add-zero, zero-add}
use native.Mathlib.Omega.{arith}
use mathlib.Core.Bool.{true, false}
use borrow.Author.Tests.{ltb-true, ltb-false, leb-true, leb-false, lt-ltb, le-ltb, le-leb, lt-leb}
use lib.Dec.{ltb, leb, leb-suc-suc}
use lib.IntN.{ℤ, pos, negsuc}
use lib.Signed.{lt_z, le_z}
use Rattle.integer.proofs.Parts.{up, dn}

lt_test : (a b : ℤ) → lt_z a b ≡ ltb (up a + dn b) (up b + dn a)
lt_test (pos a) (pos b) = rw (add-zero a, add-zero b)
lt_test (pos a) (negsuc b) = sym (le-ltb (a + suc b) 0 (omega arith))
lt_test (negsuc a) (pos b) = sym (lt-ltb 0 (b + suc a) (omega arith))
lt_test (negsuc a) (negsuc b) = rw (zero-add (suc a), zero-add (suc b), leb-suc-suc (suc b) a)

le_test : (a b : ℤ) → le_z a b ≡ leb (up a + dn b) (up b + dn a)
le_test (pos a) (pos b) = rw (add-zero a, add-zero b)
le_test (pos a) (negsuc b) = sym (lt-leb (a + suc b) 0 (omega arith))
le_test (negsuc a) (pos b) = sym (le-leb 0 (b + suc a) (omega arith))
le_test (negsuc a) (negsuc b) = rw (zero-add (suc a), zero-add (suc b), leb-suc-suc b a)

module _ (a b : ℤ) where
  -- what a test tells
  pub before_parts : lt_z a b ≡ true → up a + dn b < up b + dn a
  before_parts e = ltb-true _ _ (sym (lt_test a b) ∙ e)

  pub not_before_parts : lt_z a b ≡ false → up b + dn a ≤ up a + dn b
  not_before_parts e = ltb-false _ _ (sym (lt_test a b) ∙ e)

  pub up_to_parts : le_z a b ≡ true → up a + dn b ≤ up b + dn a
  up_to_parts e = leb-true _ _ (sym (le_test a b) ∙ e)

  pub after_parts : le_z a b ≡ false → up b + dn a < up a + dn b
  after_parts e = leb-false _ _ (sym (le_test a b) ∙ e)

  -- and the other way
  pub parts_before : up a + dn b < up b + dn a → lt_z a b ≡ true
  parts_before h = lt_test a b ∙ lt-ltb _ _ h

  pub parts_up_to : up a + dn b ≤ up b + dn a → le_z a b ≡ true
  parts_up_to h = le_test a b ∙ le-leb _ _ h

  pub parts_after : up b + dn a < up a + dn b → le_z a b ≡ false
  parts_after h = le_test a b ∙ lt-leb _ _ h
