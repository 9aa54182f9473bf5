pub mod FirstBelow
