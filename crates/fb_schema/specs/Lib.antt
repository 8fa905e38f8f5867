-- What public contracts say, in reading order.
pub mod Rows
pub mod Kinds
pub mod Demands
pub mod Live
pub mod Members
pub mod Parts
pub mod Served
pub mod Steps
pub mod Targets
pub mod Builders
pub mod Examples
pub mod LookUps
-- What proofs alone need.
pub mod Flat
pub mod FlatLists
pub mod FlatRows
pub mod Heads
pub mod Index
pub mod Indexed
pub mod Sorting
pub mod Vectors
