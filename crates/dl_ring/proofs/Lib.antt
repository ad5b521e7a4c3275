pub mod InjectionKeeping
pub mod InjectionStates
pub mod Keeping
pub mod Owners
pub mod Boxing
pub mod Items
