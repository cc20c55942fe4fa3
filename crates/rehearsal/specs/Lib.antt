pub mod Commands
pub mod Numbers
pub mod Openings
pub mod Parts
pub mod Rehearsals
pub mod Replies
pub mod Sessions
pub mod WorkedCases
