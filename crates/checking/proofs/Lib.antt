-- What a walk through a tree reads and passes, that it is there, and that the walk ends soon; then the slots; then both directions for whole tables.
pub mod Walked
pub mod Comparing
pub mod Room
pub mod Reading
pub mod Steps
pub mod WalkedHeld
pub mod LiveSlots
pub mod Auxiliaries
pub mod Sound
pub mod Complete
pub mod Exact
