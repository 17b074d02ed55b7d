-- What the mirrors of specs/ mean, along any axis and at any places of records: on words that hold a tree they build it and copy it. `Weights`: what they build
-- has as many slots as were asked for, on any words.
pub mod Building
pub mod Few
pub mod Weights
pub mod Copying
