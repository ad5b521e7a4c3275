pub mod Line
pub mod Spells
pub mod Word
