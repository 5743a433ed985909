-- What belongs to no one function; `pub` are the laws that crates above cite.
mod Steps
pub mod Laws
mod Determined
mod RefusedKeeps
pub mod Accepted
