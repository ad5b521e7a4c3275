mod Walks
pub mod Versions
pub mod LearntSlots
pub mod SetLevels
pub mod OpenChannels
pub mod ToldLevels
pub mod Unregistered
