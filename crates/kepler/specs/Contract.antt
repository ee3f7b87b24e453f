-- What the functions owe. Assumes nothing.
use Rattle.std.specs.Prelude.{◌≡◌, ℕ, ◌+◌, ◌-◌, ◌*◌, ◌/◌, ◌^◌, ◌<◌, ◌≤◌, max, cond, nat_le, Err, Ok, Result}
use Rattle.kepler.specs.declared.Anomaly.{Anomaly}
use Rattle.kepler.specs.Kepler.{equation, anomaly, halvings}
use Rattle.kepler.specs.Bracket.{Bracketed}
use Rattle.kepler.specs.Demand.{Demand3}
use Rattle.kepler.specs.Solution.{solution}
use Rattle.refusal.specs.declared.Refusal.{Refusal}

-- r angles with a part each, in units of 10^-7, reach what is needed from what there is, and what the cuts take besides
pub record Reaches (part cuts need have r : ℕ) : Type 0 where
  pub reaches : need * 10 ^ 7 + cuts ≤ have * 10 ^ 7 + r * part
  pub some : 1 ≤ r
  pub small : r ≤ 2 ^ 57

-- what the cuts may take from the rise of k, in units of 10^-7
abbrev pub slack : ℕ → ℕ
slack e = 16_400_000 + e * 49 / 20

-- the window round a guess G, where k rises by the part 1 - share/10^7 of the way
pub record Around (e share M G from to : ℕ) : Type 0 where
  pub up : ℕ
  pub down : ℕ
  pub from_is : from ≡ G - down
  pub to_is : to ≡ G + up
  pub above : Reaches (10 ^ 7 - share) (slack e) M (equation e G) up
  pub below : Reaches (10 ^ 7 - share) (slack e) (equation e G) (M + 1) down

-- the lower end of the interval of `width` angles that the angle a lies in
abbrev pub lower_end : ℕ → ℕ → ℕ
lower_end width a = a / width * width

-- from the angle `low` on k(E) ≤ M to the angle `from`, and M < k(E) from the angle `to` on
pub record Decides (e M low from to : ℕ) : Type 0 where
  pub small : from < 2 ^ 32
  pub fits : to ≤ 2 ^ 62
  pub below : (E : ℕ) → low ≤ E → E ≤ from → equation e E ≤ M
  pub above : (E : ℕ) → to ≤ E → E ≤ 2 ^ 32 → M < equation e E

-- the same of one middle, where it does not lie between `from` and `to`
pub record DecidesAt (e M from to middle : ℕ) : Type 0 where
  pub small : from < 2 ^ 32
  pub before : from < to
  pub fits : to ≤ 2 ^ 62
  pub middle_le : middle ≤ 2 ^ 32
  pub below : middle ≤ from → equation e middle ≤ M
  pub above : to ≤ middle → M < equation e middle

-- `from`, raised to the middle where k(middle) ≤ M
abbrev pub raised_to : ℕ → ℕ → ℕ → ℕ → ℕ
raised_to e M from middle = cond (nat_le (equation e middle) M) (max from middle) from

-- what an eccentric anomaly owes
pub record AnomalyAt (e M : ℕ) (r : Anomaly) : Type 0 where
  pub angle_is : r.angle ≡ anomaly e M
  pub halvings_is : r.halvings ≡ halvings e
  pub below : r.angle < 2 ^ 32
  pub bracket : Bracketed e M r.angle
  pub demand3 : Demand3 e M r.angle

-- by the cases of the answer
abbrev pub SolutionOwes : ℕ → ℕ → Result Anomaly Refusal → Type 0
SolutionOwes e M (Ok r) = AnomalyAt e M r
SolutionOwes e M (Err refusal) = 9_000_000 < e

-- what the solver owes
pub record SolvedBy (e M : ℕ) (r : Result Anomaly Refusal) : Type 0 where
  pub is : r ≡ solution e M
  pub owes : SolutionOwes e M r
