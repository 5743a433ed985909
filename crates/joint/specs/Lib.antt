-- The joint call, and runs of calls with it.
pub mod Joint
pub mod Runs
pub mod SReg
pub mod Calls
