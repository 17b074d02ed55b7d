-- What the mirrors of specs/ mean: on words that hold a two-fold tree by the rules, the slot is inserted as in the model.
pub mod Way
pub mod Ready
pub mod Afresh
pub mod Leaf
pub mod Inserting
