pub mod FigureRead
