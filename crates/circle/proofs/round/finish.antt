-- What the proofs of finishing use.
pub mod Shares
