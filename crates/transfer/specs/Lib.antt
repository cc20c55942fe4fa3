pub mod Commands
pub mod Walks
pub mod Words
