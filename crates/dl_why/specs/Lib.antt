pub mod Explained
pub mod StepsStatus
pub mod Drawing
pub mod Program
