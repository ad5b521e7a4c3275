pub mod Scenario
pub mod Opening
pub mod Asked
