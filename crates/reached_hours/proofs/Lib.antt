-- The theorems about hours and thresholds.
pub mod Hours
