pub mod Played
pub mod LinesSoFar
pub mod PlayedLines
pub mod PlayedScripts
pub mod Pairs
pub mod OwnContexts
