pub mod Payloads
pub mod Refused
pub mod SpelledLines
