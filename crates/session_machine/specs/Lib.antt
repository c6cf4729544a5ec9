pub mod Orders
pub mod Machine
pub mod Alone
pub mod Laws
pub mod Versions
pub mod Table
pub mod Sessions
pub mod WorkedScripts
