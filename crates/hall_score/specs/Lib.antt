pub mod Total
pub mod Standings
pub mod Table
pub mod Progress
pub mod Rulings
pub mod Tally
pub mod Laws
