-- A logger's hour.
pub mod Logger
pub mod Accepted
pub mod Inner
