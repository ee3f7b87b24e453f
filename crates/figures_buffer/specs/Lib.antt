pub mod FigureBytes
