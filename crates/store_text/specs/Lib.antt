pub mod Lending
pub mod Reading
pub mod Refusals
pub mod Shelved
