pub mod ListsLemmas
pub mod SeatsLemmas
pub mod Views
pub mod Keeps
pub mod MakerKeeps
pub mod Closing
