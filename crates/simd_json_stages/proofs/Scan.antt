-- The first stage: bytes become structural indexes, 64 bytes at a time.
pub mod CarryLaws
pub mod Bits
pub mod BlockLaws
pub mod BlockWords
pub mod ScanLaws
pub mod BlockScanLaws
pub mod GroupLaws
pub mod InsideLaws
pub mod RestLaws
pub mod EncodingLaws
pub mod EscapeBlockLaws
pub mod WholeFaults
