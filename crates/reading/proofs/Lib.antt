-- What the crates above cite.
pub mod Made
