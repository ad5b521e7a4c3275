pub mod Cutting
pub mod Bytes
pub mod Number
