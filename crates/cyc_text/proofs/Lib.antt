pub mod DecimalLemmas
pub mod FirstLineLemmas
pub mod FirstWordLemmas
pub mod LineLemmas
pub mod NumberLemmas
pub mod ReadBackLemmas
pub mod WordLemmas
pub mod WrittenLemmas
