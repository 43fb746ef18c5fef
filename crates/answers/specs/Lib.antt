-- Refusals and their numbers, and tests asked in order. In reading order.

-- what contracts are written with
pub mod Catalogue
pub mod Pick
pub mod Tests
-- what theorems are stated with beside it
pub mod Listing
pub mod Keeping
pub mod Outcome
