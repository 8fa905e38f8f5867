-- What public contracts say, in reading order.
pub mod ByteFields
pub mod FileMarks
pub mod Names
pub mod Lists
pub mod Asked
pub mod Inputs
pub mod Heads
pub mod Checking
pub mod Keeping
pub mod Serving
pub mod CheckLaws
pub mod InputTests
pub mod StopTests
