pub mod Kinds
pub mod Letters
pub mod Openers
pub mod Printed
pub mod Refusals
