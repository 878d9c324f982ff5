pub mod Chunks
pub mod References
