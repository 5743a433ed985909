-- What belongs to no one function.
pub mod Laws
mod Determined
