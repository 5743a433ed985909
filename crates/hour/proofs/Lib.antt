-- What belongs to no one function; `pub` is what crates above cite.
pub mod Laws
pub mod Accepted
pub mod Without
pub mod Earlier
pub mod Moved
mod Determined
mod RefusedKeeps
