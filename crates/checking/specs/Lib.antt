-- `Verdict` is what the check says, for readers. The others are mirrors: what the functions of src/ give, on lists and numbers, step by step;
-- what they mean is in proofs/.
pub mod Verdict
pub mod Slots
pub mod Span
pub mod Trees
pub mod Check
