pub mod Looking
pub mod Naming
pub mod Parts
