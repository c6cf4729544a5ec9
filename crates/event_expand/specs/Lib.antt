pub mod Systems
pub mod Pieces
