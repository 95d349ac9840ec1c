-- What the proofs of the station use.
pub mod Dealing
