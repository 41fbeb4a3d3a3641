pub mod Rows
pub mod Forms
pub mod Seen
pub mod Columns
pub mod Opened
