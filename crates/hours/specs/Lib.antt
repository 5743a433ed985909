-- The questions about a whole hour.
pub mod Hours
pub mod Inner
