-- The lines of frames.
pub mod Text
pub mod Inner
