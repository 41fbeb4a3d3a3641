pub mod Budgets
pub mod Endings
pub mod Lines
pub mod Statuses
pub mod Texts
pub mod Words
