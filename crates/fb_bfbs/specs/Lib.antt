-- What public contracts say, in reading order.
pub mod Fixed
pub mod Says
pub mod Describes
pub mod Sums
pub mod FileRows
pub mod Loads
pub mod LoadLaws
pub mod Marks
pub mod ByteFields
pub mod Codes
pub mod Samples
pub mod Examples
-- What proofs alone need.
pub mod Seen
pub mod Tags
pub mod MarkedSlots
