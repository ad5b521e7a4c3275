pub mod Shifted
pub mod Fields
pub mod Lengths
pub mod Places
pub mod Adding
pub mod Accounts
