-- What the proofs of rounds use.
pub mod Begins
