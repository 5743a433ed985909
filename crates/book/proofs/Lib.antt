-- What belongs to no one function.
pub mod Calls
pub mod Asked
mod Determined
mod RefusedKeeps
