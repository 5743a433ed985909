-- The laws that belong to no one function; `pub` are those that crates above cite.
pub mod Numbers
pub mod Digits
pub mod Frames
pub mod Lines
pub mod RoundTrip
mod Samples
mod Contracts
mod Determined
mod RefusedKeeps
