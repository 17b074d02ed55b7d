-- Laws.
pub mod Digits
pub mod Numerals
pub mod Reading
pub mod Places
pub mod Writing
pub mod Responses
pub mod Gathering
