-- What the contracts of every crate are made of.
pub mod Choice
pub mod Determined
pub mod Refused
pub mod Folds
pub mod Runs
pub mod Whole
pub mod Inner
