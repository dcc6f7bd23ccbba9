-- What the proofs of several functions share, and what the crates above cite.
pub mod Marks
