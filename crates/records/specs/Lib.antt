-- The quality bands on a list of records, and how they come down to two lists of numbers.
pub mod Records
pub mod Inner
