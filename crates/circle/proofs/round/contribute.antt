-- What the proofs of contributing use.
pub mod Portions
pub mod Parts
