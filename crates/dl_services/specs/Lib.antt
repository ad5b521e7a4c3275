pub mod Wish
pub mod Service
