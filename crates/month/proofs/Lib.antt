-- What belongs to no one function.
pub mod Core
mod Readouts
mod Determined
mod RefusedKeeps
