-- What the proofs of the residues' functions use.
pub mod Powers
