-- What the proofs of opening use.
pub mod Cards
