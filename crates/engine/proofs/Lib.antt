-- What the proofs of several functions share.
pub mod Steps
pub mod Entries
pub mod Runs
