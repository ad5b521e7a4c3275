pub mod StillOpen
pub mod Behind
pub mod LeftOpen
pub mod Visiting
