pub mod Words
pub mod Points
pub mod Duties
pub mod Commands
pub mod Obligations
pub mod Taken
pub mod Examples
pub mod Built
