pub mod Cuts
pub mod Exact
pub mod Orderly
pub mod Placing
pub mod Seeking
pub mod Sorting
pub mod Tested
