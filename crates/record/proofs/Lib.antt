pub mod Lookup
pub mod Sameness
