pub mod Looking
pub mod SentSoFar
