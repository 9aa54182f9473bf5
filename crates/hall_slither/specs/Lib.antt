pub mod Chain
pub mod Close
pub mod Colour
pub mod Count
pub mod Dot
pub mod Early
pub mod Follow
pub mod Trial
