pub mod Unchanged
pub mod Shelves
pub mod Maps
pub mod Wires
pub mod Queues
