mod DecimalLemmas
mod LineLemmas
mod PartLemmas
mod ResultLemmas
mod StoreLemmas
mod TextLemmas
