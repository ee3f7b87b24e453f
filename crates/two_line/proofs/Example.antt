-- The published set is taken: the definition computes to its elements. Assumes nothing.
use mathlib.Core.Path.{◌≡◌, refl}
use Rattle.time.specs.Range.{in_range}
use Rattle.trig.specs.Angle.{angle_of}
use Rattle.elements.specs.Elements.{refuse_if, perigee_below, checked_to7, checked}
use Rattle.two_line_fields.specs.Decimals.{further, decimal_of}
use Rattle.two_line.specs.Example.{station_first, station_second, station_axis, station_node_rate, station_perigee_rate, station_elements}
use Rattle.two_line_fields.specs.Fields.{year_of, field_of, place_or, first_bad}
use Rattle.two_line.specs.Lines.{checksum_holds}
use Rattle.two_line.specs.Reading.{microseconds, seconds_of, epoch_of, amount_of, moved_back, revolution_back, derivative_of, taken_with, taken, two_line_reading}
use Rattle.std.specs.Prelude.{Ok}

pub station_taken : two_line_reading station_first station_second station_axis station_node_rate station_perigee_rate ≡ Ok station_elements
unfolding further decimal_of year_of field_of place_or first_bad checksum_holds microseconds seconds_of epoch_of amount_of moved_back revolution_back derivative_of taken_with taken two_line_reading angle_of in_range refuse_if perigee_below checked_to7 checked
station_taken = refl
