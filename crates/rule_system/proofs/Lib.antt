pub mod Walks
pub mod Weights
pub mod Paths
pub mod Erase
pub mod Ratios
pub mod Arrivals
pub mod Firsts
pub mod Parts
pub mod RingFacts
pub mod Sums
pub mod Search
pub mod Cuts
pub mod WalkTests
pub mod FirstExists
pub mod ArrivalsExist
pub mod Lowest
pub mod PeriodExists
pub mod Dead
mod Ends
pub mod PlainWalks
pub mod GreatestWeight
pub mod PlainPeriod
mod Lists
mod Forward
mod Places
mod Trails
