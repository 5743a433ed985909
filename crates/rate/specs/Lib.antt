-- An hour's rate by its scores.
pub mod Rolling
pub mod Accepted
pub mod Earlier
pub mod Inner
