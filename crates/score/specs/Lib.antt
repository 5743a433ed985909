-- A second's score, and the scores of a run of seconds.
pub mod Score
pub mod Run
pub mod Accepted
pub mod Moved
pub mod Calls
pub mod Inner
