-- Each entry of the tables is the code that it stands for, by computing it.
use Rattle.std.proofs.Common.{◌≡◌, ℕ, ◌+◌, ◌*◌, ◌/◌, ◌%◌, ◌<◌, Bool, true, [], nat_eq, get_or, refl, sym, ap₂, ◌∙◌, arith}
use Rattle.std.proofs.lemmas.Bool.{agree_below, agree_below_at, eqb-true}
use Rattle.rw_codes.specs.Crc.{crc_bits}
use Rattle.rw_codes.specs.declared.crc_tables.TheConstants.{TABLES}

abbrev is_code : ℕ → ℕ → Bool
is_code zeros byte = nat_eq (get_or (get_or TABLES zeros []) byte 0) (crc_bits (8 * (zeros + 1)) byte)

-- the entry at k of all tables, one after the other
abbrev is_code_at : ℕ → Bool
is_code_at k = is_code (k / 256) (k % 256)

all_are_codes : agree_below is_code_at (λ k. true) 2048 ≡ true
unfolding crc_bits
all_are_codes = refl

pub entry_is_code : (zeros byte : ℕ) → zeros < 8 → byte < 256 → get_or (get_or TABLES zeros []) byte 0 ≡ crc_bits (8 * (zeros + 1)) byte
entry_is_code zeros byte h f =
    let row : (zeros * 256 + byte) / 256 ≡ zeros = omega arith in
    let place : (zeros * 256 + byte) % 256 ≡ byte = omega arith in
    let here = agree_below_at is_code_at (λ k. true) 2048 (zeros * 256 + byte) all_are_codes (omega arith) in
    eqb-true _ _ (sym (ap₂ is_code row place) ∙ here)
