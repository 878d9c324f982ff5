pub mod Lines
pub mod Names
pub mod Spans
pub mod Texts
pub mod Utf8
