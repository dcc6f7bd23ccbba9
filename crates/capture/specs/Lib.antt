pub mod Words
pub mod Read
pub mod Write
