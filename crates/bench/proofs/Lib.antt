-- What the proofs of the program share.
pub mod Laws
