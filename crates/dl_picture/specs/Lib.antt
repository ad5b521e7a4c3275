pub mod Element
pub mod Row
pub mod Picture
pub mod Tally
pub mod Axis
