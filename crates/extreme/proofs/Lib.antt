pub mod FiniteTests
pub mod FloatOrder
pub mod ExtremeOrder
