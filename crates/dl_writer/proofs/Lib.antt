pub mod Claims
pub mod Writers
pub mod Announcing
pub mod Telling
pub mod ToldClaims
pub mod Accounting
pub mod Looking
pub mod Books
