-- The transfer ramp, and an hour's plan by its targets.
pub mod Ramp
pub mod Accepted
pub mod Calls
