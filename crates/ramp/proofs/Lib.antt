-- What belongs to no one function; `pub` is what crates above cite.
mod Falling
mod Level
pub mod Laws
pub mod Accepted
mod Determined
mod RefusedKeeps
