-- What belongs to no one function; `pub` is what crates above cite.
pub mod States
mod Places
pub mod Seconds
pub mod Laws
mod Determined
mod RefusedKeeps
