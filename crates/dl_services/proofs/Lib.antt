pub mod Requests
mod Serving
mod Targets
