-- The questions that print a run.
pub mod Series
pub mod Inner
