pub mod Lists
pub mod Views
pub mod Rule
pub mod Held
pub mod Seats
pub mod Dealt
