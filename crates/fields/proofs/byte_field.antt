-- What the proofs of the bytes' functions use.
pub mod Division
