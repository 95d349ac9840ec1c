-- What the proofs of the desk's steps use.
pub mod Back
pub mod Elements
pub mod Replies
pub mod Walk
