-- What public contracts say, in reading order.
pub mod Fitting
pub mod Spots
pub mod Denotes
pub mod Extents
pub mod Here
pub mod Known
pub mod PlaceLaws
pub mod StepLaws
pub mod Held
pub mod Inside
pub mod Tested
pub mod Samples
pub mod Examples
pub mod Grammar
pub mod Resolving
pub mod PathCodes
pub mod Kept
pub mod Location
pub mod PathTests
pub mod LocationTests
pub mod LocationLaws
-- What proofs alone need.
pub mod Cutting
pub mod Underway
