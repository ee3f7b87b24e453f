pub mod Lists
pub mod Bounds
pub mod FigureLaws
pub mod AllowedFigures
pub mod FileLabels
pub mod ManyFiles
