pub mod Entries
pub mod Meaning
pub mod Numbers
pub mod Runs
