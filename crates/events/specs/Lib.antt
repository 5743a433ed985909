-- sReg's events by the list of seconds alone.
pub mod Events
pub mod States
