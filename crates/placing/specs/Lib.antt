-- Where a piece can go in guest memory. In reading order.
pub mod Placing
pub mod Search
