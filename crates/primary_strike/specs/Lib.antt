-- Mirrors: what the functions of src/ give, on lists and numbers, step by step. What they mean is in proofs/.
pub mod Lift
pub mod Strike
