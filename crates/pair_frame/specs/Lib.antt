-- The frame of a logger's pair.
pub mod PairFrame
