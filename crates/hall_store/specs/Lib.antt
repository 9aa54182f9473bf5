pub mod Change
pub mod Joint
pub mod Store
pub mod Caller
pub mod Keyed
pub mod Cache
pub mod Maps
pub mod Whole
