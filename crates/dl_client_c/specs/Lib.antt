pub mod Shapes
pub mod Registered
