-- What public contracts say, in reading order: of the command line,
pub mod CommandLine
pub mod Values
pub mod Given
pub mod Refusal
pub mod Ranges
-- and of what is told.
pub mod Faults
pub mod Causes
pub mod Hints
pub mod FaultJson
pub mod Texts
pub mod TextTests
-- What contracts inside say.
pub mod OptionTable
pub mod Matched
