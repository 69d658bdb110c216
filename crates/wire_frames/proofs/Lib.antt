mod Alone
mod AtHomes
pub mod Beyond
pub mod Codes
mod CopiedHomes
mod Examples
mod Existing
mod Filters
pub mod FirstVersion
mod Fitted
mod Found
pub mod FrameCodes
mod FrameExamples
mod FrameOrder
mod FrameSizes
pub mod FramesOfHistories
pub mod Grammar
mod Grown
pub mod HaveEncodings
mod HomeLists
mod HomeParts
mod LawfulMembers
mod Lengths
mod Loop
pub mod OfSets
mod OneFrameOfASet
mod Ordered
mod PartsPut
mod Pieces
mod Put
pub mod RecordCodes
mod Slices
mod StreamReads
mod TakenIsUnion
mod Together
mod ToldByFrames
mod ToldLists
mod ToldSince
mod ToldToo
mod Widths
