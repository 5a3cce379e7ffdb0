pub mod LengthLemmas
pub mod HitsLemmas
pub mod UncoveredLemmas
pub mod LineLemmas
mod YieldLemmas
mod CarryLemmas
mod FrontLemmas
mod CountLemmas
mod EmptyAlike
mod CoverLemmas
mod CopyLemmas
mod PairTextLemmas
