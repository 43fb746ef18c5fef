-- The words of a line. In reading order.

-- what contracts are written with
pub mod Readers
pub mod Words
pub mod Telling
-- what theorems are stated with beside it
pub mod HouseRule
pub mod Inserting
