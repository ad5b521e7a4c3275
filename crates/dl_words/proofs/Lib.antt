pub mod Accepted
pub mod Values
pub mod Said
pub mod Own
