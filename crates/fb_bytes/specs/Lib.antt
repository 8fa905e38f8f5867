-- What public contracts say, in reading order.
pub mod Word
pub mod Ends
pub mod Messages
pub mod Framing
