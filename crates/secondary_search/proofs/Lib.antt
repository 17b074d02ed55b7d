-- What the mirrors of specs/ mean: on words that hold an auxiliary tree they give the model's search of it.
pub mod Turns
pub mod Walks
pub mod Ends
pub mod Counting
pub mod Lent
pub mod Listing
