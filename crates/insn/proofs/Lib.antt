-- What the proofs of several functions share, and the theorems on reading and writing.
pub mod Parts
pub mod Hits
pub mod Round
pub mod Worked
