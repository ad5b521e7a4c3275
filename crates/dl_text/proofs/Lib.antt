pub mod Digits
pub mod IdTexts
pub mod LineEnds
pub mod LineParts
