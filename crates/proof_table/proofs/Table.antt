-- What the definitions give is what the paper says, row by row: the checker computes both columns. Assumes nothing.
use mathlib.Core.Path.{◌≡◌, refl}
use Rattle.trig.specs.Sine.{S, in_quarter, quarter_sine, uncapped, series, horner_step, square, radians}
use Rattle.kepler.specs.Kepler.{g, h, equation, halve, anomaly, halvings}
use Rattle.kepler.specs.Solution.{solution}
use Rattle.eclipse.specs.Dot.{dot_of}
use Rattle.eclipse.specs.Shade.{side_squared, spread, umbra_radius, penumbra_radius, below_square, shade_behind, shade_of, any_beyond, out_of_range, shade_answer}
use Rattle.label.specs.Sides.{side_of}
use Rattle.proof_table.specs.Rows.{anomaly_or, shade_or, shade_along_x, rows, given_by, said_by}

pub table : given_by rows ≡ said_by rows
unfolding given_by said_by rows anomaly_or shade_or shade_along_x S in_quarter quarter_sine uncapped series horner_step square radians solution anomaly halvings halve equation h g shade_answer out_of_range any_beyond shade_of shade_behind below_square umbra_radius penumbra_radius spread side_squared dot_of side_of
table = refl
