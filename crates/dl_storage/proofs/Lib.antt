mod Letters
mod Changes
mod Writes
mod Bounds
mod Steps
mod Alone
mod Chain
mod LastLines
pub mod FilterNames
