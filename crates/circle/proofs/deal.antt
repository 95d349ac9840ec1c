-- What the proofs of dealing use.
pub mod Answered
pub mod Opens
pub mod Hiding
