-- What belongs to no one function; `pub` is what crates above cite.
pub mod Laws
mod ByInverse
pub mod Run
pub mod Accepted
pub mod Moved
mod Determined
mod RefusedKeeps
