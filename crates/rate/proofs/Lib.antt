-- What belongs to no one function; `pub` is what crates above cite.
pub mod Rates
pub mod Accepted
pub mod Earlier
mod Determined
mod RefusedKeeps
