-- `Answers`, `Performs` and `Run` are what the calls do, for readers. `Mirrors` has what the functions of src/ give, on lists and numbers, step by step; what
-- it means is in proofs/.
pub mod Answers
pub mod Performs
pub mod Run
pub mod Mirrors
