-- `extreme::goes_ahead` meets its contract. Assumes nothing.
use Rattle.extreme.proofs.goes_ahead.Goals as goal

pub returns-in-Least : goal.returns-in-Least
returns-in-Least c = rw c.in-Least.is

pub returns-in-Greatest : goal.returns-in-Greatest
returns-in-Greatest c = rw c.in-Greatest.is
