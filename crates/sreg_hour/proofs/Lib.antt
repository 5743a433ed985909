-- What belongs to no one function; `pub` is what crates above cite.
pub mod Laws
pub mod Accepted
pub mod Hours
pub mod States
mod Determined
mod RefusedKeeps
