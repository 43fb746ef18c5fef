-- The kernel command line. In reading order.

-- what contracts are written with
pub mod Limit
pub mod Text
pub mod Insertion
pub mod Making
pub mod Digits
pub mod Device
pub mod Writing
pub mod SameLaws
pub mod Held
pub mod InPlace
-- what theorems are stated with beside it
pub mod Fitting
pub mod ZeroPast
pub mod Growing
pub mod Keeping
pub mod Answering
pub mod Calls
