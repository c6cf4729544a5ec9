pub mod Calls
pub mod FaultyLines
pub mod ScriptLines
pub mod Scripts
