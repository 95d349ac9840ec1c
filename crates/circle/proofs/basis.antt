-- What the proofs of cards that fix a polynomial use.
pub mod Sets
