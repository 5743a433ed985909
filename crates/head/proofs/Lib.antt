-- What belongs to no one function.
pub mod Sound
pub mod Heads
pub mod HourPlaces
mod Determined
mod RefusedKeeps
