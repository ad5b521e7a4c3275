pub mod OpenClients
pub mod ToldLevels
pub mod ServedMessages
pub mod HeardMore
pub mod PutLevels
pub mod AnsweredRegistrations
pub mod LaterSides
