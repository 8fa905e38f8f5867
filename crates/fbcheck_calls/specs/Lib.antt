-- What public contracts say, in reading order.
pub mod Bases
pub mod Asked
pub mod Told
pub mod Answered
pub mod AnswerLaws
pub mod Spans
pub mod Framers
pub mod Steps
pub mod Values
pub mod Marked
pub mod Reached
pub mod Again
pub mod Each
pub mod Walks
pub mod Around
pub mod Resolved
pub mod Placed
pub mod Names
pub mod Hinted
pub mod Examples
-- What a handle owns.
pub mod Owns
