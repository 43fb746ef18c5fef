-- Loads of ELF kernels. In reading order.

-- what contracts are written with
pub mod Header
pub mod ProgramHeaders
pub mod Notes
pub mod NoteWalk
pub mod Survey
pub mod Pouring
pub mod Load
pub mod Parts
pub mod Memory
-- what theorems are stated with beside it
pub mod Listing
pub mod Verdict
pub mod Rules
pub mod ByteRule
pub mod Results
pub mod Lengthening
pub mod Footprint
pub mod WholeSlice
