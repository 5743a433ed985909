-- Static regulation (sReg): a second by the state before it, and a run of seconds.
pub mod Second
pub mod Run
pub mod Inner
