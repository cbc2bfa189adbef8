-- Inner definitions: only models, invariants, private functions and proofs use them.
pub mod Passing
