-- Document 01's figures marked P.
pub mod Figures
