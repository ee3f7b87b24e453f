-- Nonlinear arithmetic over ℕ: products multiplied out to one form, which `omega` then compares. Assumes nothing.
use native.Mathlib.Nat.{add_assoc, add_comm, add_left_comm, mul-add, add-mul, mul_assoc, mul_comm, mul_left_comm}

pub ruleset ring = (mul-add, add-mul, mul_assoc, mul_comm, mul_left_comm, add_assoc, add_comm, add_left_comm)
