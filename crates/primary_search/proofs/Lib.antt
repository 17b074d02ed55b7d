-- What the mirrors of specs/ mean: on words that hold a two-fold tree they give the model's search of it, and the slot of a mark; on any words what is found is
-- there (`Sought`).
pub mod Sought
pub mod Walks
pub mod Ready
pub mod Finding
pub mod Counting
pub mod Listing
