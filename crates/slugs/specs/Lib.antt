-- The texts that a line is built of. In reading order.
pub mod Bytes
pub mod Trimming
pub mod Trimmed
pub mod Keys
pub mod Values
pub mod Lists
pub mod Joining
pub mod Stored
pub mod Splitting
