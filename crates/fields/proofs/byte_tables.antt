-- What the proofs of the tables' functions use.
pub mod Exponents
pub mod Tables
