pub mod Command
pub mod Parse
pub mod Run
pub mod Serve
pub mod Daemon
