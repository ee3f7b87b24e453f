-- A refusal with its place. Assumes nothing.
use Rattle.std.specs.Prelude.{ℕ}
use Rattle.refusal.specs.declared.Refusal.{Refusal}
use Rattle.refusal.specs.declared.RefusedAt.{RefusedAt}

abbrev pub refused_at : Refusal → ℕ → RefusedAt
refused_at refusal place = record { refusal = refusal; place = place }
