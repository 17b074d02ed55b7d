-- What it is for the words of a table to hold a two-fold tree, what a sound table is, and which words none uses, to be read in this order.
pub mod Levels
pub mod Rules
pub mod TwoFold
pub mod Sound
pub mod Gaps
