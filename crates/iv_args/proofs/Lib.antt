pub mod DraftLemmas
mod PieceLemmas
pub mod ArgumentLemmas
