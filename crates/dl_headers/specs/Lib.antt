pub mod Header
pub mod Message
pub mod Reply
pub mod Reading
pub mod Msin
