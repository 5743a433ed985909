-- The questions that print a frame, or two.
pub mod Frames
