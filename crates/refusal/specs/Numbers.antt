-- The number of each refusal: document 01, "When the build says no". Assumes nothing.
use Rattle.std.specs.Prelude.{ℕ}
use Rattle.refusal.specs.declared.Refusal.{Refusal}
use Rattle.refusal.specs.declared.Refusal.TheVariants.{Eccentricity, SemiMajorAxis, PerigeeDistance, Inclination, MeanMotion, DriftRate, EpochRevolution, Time, TelemetryLength, OutputLength, Trailer, Labels, Component, Figures, MeanMotionDerivative, Lines, Checksum, Field, SatelliteNumbers, Table, Room, NoSet, Day}

abbrev pub number_of : Refusal → ℕ
-- e above 9,000,000
number_of Eccentricity = 1
-- a outside 6,600,000 to 100,000,000
number_of SemiMajorAxis = 2
-- a·(10^7 − e) below 6,478,000·10^7
number_of PerigeeDistance = 3
-- inclination above 2^31
number_of Inclination = 4
-- n outside 20,000,000 to 1,700,000,000
number_of MeanMotion = 5
-- a drift rate beyond ±200,000
number_of DriftRate = 6
-- epoch revolution above 99,999
number_of EpochRevolution = 7
-- epoch or time out of range, or the two too far apart
number_of Time = 8
-- 9 is not used, and not to be used again (law `never_9`)
-- telemetry length no multiple of 16, or over 1,024 records; a day closed within a record
number_of TelemetryLength = 10
-- output shorter than 24 a record plus 24, or a buffer too short to add to; output too short for the labels of a packet, or for a trailer
number_of OutputLength = 11
-- a label file's length, its trailer's numbers, or a tail of another number of bytes
number_of Trailer = 12
-- a label's field rules, or the trailer's counts
number_of Labels = 13
-- a position or Sun component beyond the shade test's range
number_of Component = 14
-- scale figures with 1,000 files or more already, or beyond a bound of theirs
number_of Figures = 15
-- half the derivative of the mean motion beyond ±1,000,000, or n less 60 times its size below 20,000,000
number_of MeanMotionDerivative = 16
-- a line of two-line elements not of 69 bytes, or whose first is not its number
number_of Lines = 17
-- a line of two-line elements that does not end with its checksum
number_of Checksum = 18
-- a field of two-line elements that is no number of its layout, 360 degrees or more, or a day outside its year
number_of Field = 19
-- the satellite numbers of two lines differ
number_of SatelliteNumbers = 20
-- a table of element sets out of order, of ragged length or beyond its buffer, or with a set that 1 to 8 or 16 would refuse
number_of Table = 21
-- no room in a table for a set of another epoch
number_of Room = 22
-- no past set up to the time, and no forecast set
number_of NoSet = 23
-- a closed day, or what is no state of a day
number_of Day = 24
