-- What a proof may know of tables and of lists of numbers.
pub mod Grids
pub mod Pieces
pub mod Totals
