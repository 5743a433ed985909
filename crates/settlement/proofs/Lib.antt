-- What belongs to no one function; `pub` is what crates above cite.
pub mod Laws
mod Determined
mod RefusedKeeps
