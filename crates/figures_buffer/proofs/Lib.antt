pub mod StoredFigures
pub mod FiguresBack
