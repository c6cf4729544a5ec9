pub mod Rows
mod Alone
mod Acts
mod Drafts
mod Stops
