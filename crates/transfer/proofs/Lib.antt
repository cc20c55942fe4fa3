pub mod CommandWords
pub mod NumberReading
