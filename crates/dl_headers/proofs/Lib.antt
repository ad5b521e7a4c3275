pub mod Parts
pub mod Again
pub mod Fronts
pub mod Lengths
