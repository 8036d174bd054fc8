pub mod Parts
pub mod Mask
pub mod RowPart
