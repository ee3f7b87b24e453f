-- `orbit::state_at` meets its contract. Assumes nothing.
use borrow.Author.Rules.{rules}
use mathlib.Core.Path.{◌≡◌, ◌∙◌, ap, subst}
use Prim.Native.Nat.{ℕ}
use mir.Syntax.{w32, w64}
use mir.Val.{SFits, to_z, of_z}
use mir.Facts.{to_z-of_z}
use Rattle.integer.proofs.TwosComplement.{read_back}
use Rattle.trig.specs.Sines.{SinesAt}
use Rattle.trig.proofs.SinesOf.{sine_read, cosine_read}
use Rattle.trig.specs.Sine.{S, C}
use Rattle.trig.specs.declared.Sines.{Sines}
use Rattle.kepler.specs.Contract.{AnomalyAt}
use Rattle.kepler.specs.declared.Anomaly.{Anomaly}
use Rattle.orbit.specs.Placement.{in_plane, perigee_at, celestial_at, anomaly_of}
use Rattle.orbit.specs.Turns.{mean_anomaly}
use Rattle.elements.proofs.Accepted.{Accepted, accepted_at}
use Rattle.orbit.proofs.Distances.{minor_le}
use Rattle.orbit.proofs.Placements.{anomaly_is, state_is, state_at}
use Rattle.orbit.proofs.state_at.Goals as goal
use Rattle.orbit.proofs.state_at.Goals.{After-celestial, After-eccentric_anomaly-anomaly, After-of-perigee, After-of-sines, After-phase_at-phase, Start}

elements_accepted : (s : Start) → Accepted s.args.at.elements
elements_accepted s = (accepted_at s.args.at.elements s.args.at.time s.args.at.passed).elements

-- ---- the ellipse
pub invariant_of-ellipse : goal.invariant_of-ellipse
invariant_of-ellipse c =
    let a = elements_accepted (goal.at.invariant_of-ellipse c).Start in
    let m = minor_le c.args.at.elements.eccentricity in
    search (rules, a, m, c.requires.0)

-- ---- the mean anomaly and the revolution
revolution_fits : (c : After-phase_at-phase) → SFits w32 c.phase_at-phase.result.revolution
revolution_fits c = search rules

-- ---- the argument of perigee
perigee_sines : (c : After-of-perigee) → let a = c.args.at in SinesAt (perigee_at a.elements a.time) c.of-perigee.result
perigee_sines c = rw c.phase_at-phase.ensures.perigee_is at c.of-perigee.ensures

pub eccentric_anomaly-anomaly-requires : goal.eccentric_anomaly-anomaly-requires
eccentric_anomaly-anomaly-requires c = (elements_accepted (goal.at.eccentric_anomaly-anomaly-requires c).Start).eccentricity_le

anomaly_at : (c : After-eccentric_anomaly-anomaly) → let a = c.args.at in c.eccentric_anomaly-anomaly.result ≡ anomaly_of a.elements (mean_anomaly a.elements a.time)
anomaly_at c =
    anomaly_is c.args.at.elements c.args.at.time _
    (subst (λ (M : ℕ). AnomalyAt c.args.at.elements.eccentricity M c.eccentric_anomaly-anomaly.result) c.phase_at-phase.ensures.anomaly_is c.eccentric_anomaly-anomaly.ensures)

sines_at : (c : After-of-sines) → let a = c.args.at in SinesAt (anomaly_of a.elements (mean_anomaly a.elements a.time)).angle c.of-sines.result
sines_at c = subst (λ (r : Anomaly). SinesAt r.angle c.of-sines.result) (anomaly_at (goal.at.After-of-sines c).After-eccentric_anomaly-anomaly) c.of-sines.ensures

-- its cosine and its sine, as the machine holds them
cosine_is : {a : ℕ} {r : Sines} → SinesAt a r → to_z w64 (of_z w64 r.cosine) ≡ C a
cosine_is {r = r} h = cosine_read r ∙ ap C h.angle_is

sine_is : {a : ℕ} {r : Sines} → SinesAt a r → to_z w64 (of_z w64 r.sine) ≡ S a
sine_is {r = r} h = sine_read r ∙ ap S h.angle_is

-- ---- the position and the radius
pub in_plane-in_plane-requires : goal.in_plane-in_plane-requires
in_plane-in_plane-requires c =
    let E = c.of-sines.ensures.sines_of in
    search (rules, E)

pub celestial-requires : goal.celestial-requires
celestial-requires c =
    let p = c.requires in
    search (rules, c.in_plane-in_plane.ensures, c.of-perigee.ensures, p.0, p.1)

position_is : (c : After-celestial) → let a = c.args.at in c.celestial.result ≡ celestial_at a.elements a.time (anomaly_of a.elements (mean_anomaly a.elements a.time)).angle
unfolding celestial_at in_plane
position_is c =
    let p = c.requires in
    let E = sines_at (goal.at.After-celestial c).After-of-sines in
    simp
    (c.in_plane-in_plane.ensures.is, p.0.minor_is, cosine_is E, sine_is E, (perigee_sines (goal.at.After-celestial c).After-of-perigee).angle_is, p.0.inclination_at.angle_is, p.1)
    at c.celestial.ensures.is

pub returns : goal.returns
returns c =
    let el = c.args.at.elements in
    let t = c.args.at.time in
    let phase = c.phase_at-phase.ensures in
    let ρ = c.radius in
    state_at el t c.args.at.passed
    (state_is el t (anomaly_at (goal.at.returns c).After-eccentric_anomaly-anomaly) (to_z-of_z (revolution_fits (goal.at.returns c).After-phase_at-phase) ∙ phase.revolution_is) phase.anomaly_is
    (position_is (goal.at.returns c).After-celestial) (read_back ρ.result ρ.type_inv ∙ rw (cosine_is (sines_at (goal.at.returns c).After-of-sines)) at ρ.ensures) c.requires.1)
