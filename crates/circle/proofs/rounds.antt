-- What the proofs of the rounds use, and what a whole round comes to.
pub mod Granted
pub mod Gathered
pub mod Places
pub mod Whole
