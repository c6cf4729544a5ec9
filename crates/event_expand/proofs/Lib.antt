pub mod ArcLemmas
pub mod Bounds
pub mod Nothing
pub mod PieceLemmas
pub mod ForkLemmas
