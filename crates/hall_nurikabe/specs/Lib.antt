pub mod Colour
pub mod Marks
pub mod Counts
pub mod Block
pub mod Forced
pub mod Steps
pub mod Exit
pub mod Group
