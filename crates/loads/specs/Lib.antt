-- Loads of every format. In reading order.

-- what contracts are written with
pub mod Kinds
pub mod Formats
pub mod Layout
pub mod Calls
pub mod Steps
-- what theorems are stated with besides
pub mod Portions
pub mod ByParts
pub mod Growing
