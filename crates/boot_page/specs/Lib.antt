-- The boot page. In reading order.

-- what contracts are written with
pub mod Places
pub mod Map
pub mod Building
pub mod Reading
pub mod Answers
-- what theorems are stated with beside it
pub mod Page
