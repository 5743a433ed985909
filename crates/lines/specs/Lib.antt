-- The lines of a run of bytes.
pub mod Lines
pub mod Inner
