-- What the answers of calls leave written; the whole program, one theorem over every input; that its lists are long enough; and bytes fed one after the
-- other, as loops feed them.
pub mod Answering
pub mod Printing
pub mod ListRoom
pub mod Feeding
