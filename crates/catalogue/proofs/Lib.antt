pub mod Answered
pub mod Laws
mod Listings
pub mod Sames
