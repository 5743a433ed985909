-- What belongs to no one function.
pub mod Core
pub mod Each
pub mod Sums
mod Determined
mod RefusedKeeps
