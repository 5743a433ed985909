-- What is shown of the events and of the states.
pub mod Seconds
pub mod Reach
