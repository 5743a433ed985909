-- What belongs to no one function; `pub` is what crates above cite.
pub mod SameNumbers
pub mod Demand
pub mod Earlier
pub mod Moved
pub mod SReg
mod Determined
mod RefusedKeeps
