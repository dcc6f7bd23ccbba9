-- What the proofs of several functions share, and what the crates above cite.
pub mod Nested
pub mod Words
pub mod Drops
