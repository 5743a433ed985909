-- What belongs to no one function; `pub` is what crates above cite.
mod Entries
mod Laws
pub mod Limits
pub mod Accepted
mod Determined
mod RefusedKeeps
pub mod Moved
