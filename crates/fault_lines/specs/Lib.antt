-- The line of a fault.
pub mod Text
pub mod Inner
