-- What belongs to no one function; `pub` is what crates above cite.
pub mod Laws
pub mod Accepted
mod Determined
mod RefusedKeeps
