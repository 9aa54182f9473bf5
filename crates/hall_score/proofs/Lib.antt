pub mod Widths
pub mod Gains
pub mod Apart
pub mod Scores
pub mod Tried
pub mod ProgressLemmas
pub mod TallyLemmas
pub mod Permuted
pub mod Ranks
pub mod Once
pub mod Counting
pub mod RightTotals
pub mod OneTotal
mod Worked
