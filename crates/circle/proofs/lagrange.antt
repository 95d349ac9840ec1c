-- What the proofs of Lagrange's constants use.
pub mod Sets
