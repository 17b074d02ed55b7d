pub mod Thresholds
pub mod Sizes
