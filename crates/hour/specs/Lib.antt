-- The hour.
pub mod Hour
pub mod Accepted
pub mod Calls
pub mod Earlier
pub mod Moved
pub mod Inner
