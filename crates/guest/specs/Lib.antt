-- Guest memory, what is written into it, and what a load answers. In reading order.
pub mod Addresses
pub mod Sizes
pub mod Maps
pub mod Room
pub mod Extents
pub mod Lent
pub mod Stream
pub mod Loading
pub mod Parts
pub mod Answers
