-- The line program's texts, to be read in this order up to `Input`. `Reading` is the mirror of the code that reads, `Writing` what the code that writes
-- leaves, and `Values` what the code's values mean.
pub mod Text
pub mod Numerals
pub mod Commands
pub mod Responses
pub mod Input
pub mod Reading
pub mod Writing
pub mod Values
