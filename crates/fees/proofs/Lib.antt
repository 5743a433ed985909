-- What belongs to no one function; `pub` are the laws that crates above cite.
pub mod Laws
mod Determined
mod RefusedKeeps
pub mod Accepted
