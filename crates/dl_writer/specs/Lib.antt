pub mod Faults
pub mod State
pub mod Calls
pub mod Claiming
pub mod Met
pub mod Records
pub mod WriterInside
pub mod BookInside
