pub mod OwnSlots
