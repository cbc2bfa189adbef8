mod AnewLemmas
mod LengthLemmas
mod NotedLemmas
mod TwiceLemmas
