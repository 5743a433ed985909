-- The laws that belong to no one function; `pub` are those that crates above cite.
pub mod PairFrames
pub mod RoundTrip
mod Contracts
mod Determined
mod RefusedKeeps
