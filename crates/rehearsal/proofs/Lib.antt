pub mod LineCutting
pub mod OpeningRange
pub mod DigitByDigit
