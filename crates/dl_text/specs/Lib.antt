pub mod Lines
pub mod IdText
pub mod Decimal
pub mod Faults
