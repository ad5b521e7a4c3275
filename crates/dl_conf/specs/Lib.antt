pub mod Setting
pub mod Conf
pub mod Outcome
pub mod Stored
