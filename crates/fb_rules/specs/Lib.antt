-- What public contracts say, in reading order.
pub mod Bounds
pub mod Question
pub mod Places
pub mod Facts
pub mod Fields
pub mod Tree
pub mod Unfolds
pub mod Cost
pub mod WellFormed
pub mod Order
pub mod Way
pub mod Stops
pub mod Links
pub mod Reasons
pub mod MostReads
pub mod Verdict
pub mod Laws
pub mod TrueReasons
pub mod Samples
pub mod Examples
pub mod Tests
pub mod LinkExamples
-- What the tests of the rules and their proofs need.
pub mod OffsetRows
pub mod Plain
pub mod Alike
pub mod Told
