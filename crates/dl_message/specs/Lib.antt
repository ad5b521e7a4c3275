pub mod Frames
pub mod Parts
pub mod Cut
pub mod Cutting
pub mod Requests
