-- What is proved of polynomials, and what the loops over them use.
pub mod Values
pub mod Unique
pub mod Lagrange
pub mod Hiding
pub mod ConstantLaws
pub mod Laws
pub mod Loops
pub mod Orders
pub mod Sums
