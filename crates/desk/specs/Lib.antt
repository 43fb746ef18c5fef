-- A job of the desk program. In reading order.

-- what contracts are written with
pub mod Table
pub mod Work
pub mod Printing
-- what theorems are stated with beside it
pub mod GoodJob
