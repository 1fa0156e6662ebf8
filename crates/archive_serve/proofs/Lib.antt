mod SteadyLemmas
pub mod PeerLemmas
mod KeptLemmas
pub mod QuietLemmas
