pub mod Calls
pub mod ZeroPage
pub mod Pvh
pub mod Tree
pub mod Alone
pub mod Places
