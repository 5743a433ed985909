-- The power curve.
pub mod Curve
pub mod Moved
pub mod Inner
