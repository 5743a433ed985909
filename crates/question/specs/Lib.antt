-- The program `desk`: what each question prints.
pub mod Parts
pub mod Lines
pub mod Questions
pub mod Inner
