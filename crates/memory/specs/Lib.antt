pub mod Access
pub mod Load
pub mod Store
