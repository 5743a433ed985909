-- A question's numbers.
pub mod Numbers
pub mod Shapes
pub mod Inner
