mod AddressLemmas
mod EscapeLemmas
mod LabelLemmas
mod NumberLemmas
mod PrintLemmas
mod ValueLemmas
pub mod HexPairLemmas
pub mod HexLineLemmas
pub mod HexLawLemmas
pub mod shared
