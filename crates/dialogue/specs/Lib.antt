-- What a line does (`Responding`), what a dialogue does byte by byte and in batches (`Dialogue`), and what the whole program prints, by the model (`Program`).
-- `Values` is what the code's values mean.
pub mod Responding
pub mod Dialogue
pub mod Program
pub mod Values
