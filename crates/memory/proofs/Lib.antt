-- What the proofs of several functions share.
pub mod Board
pub mod Laws
pub mod Grow
