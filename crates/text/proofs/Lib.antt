pub mod Cut
pub mod Decoding
pub mod Ordered
