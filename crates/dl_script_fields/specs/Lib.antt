pub mod Kind
pub mod Fields
pub mod Joined
pub mod Value
pub mod Argument
pub mod Spelling
pub mod Added
pub mod Spells
