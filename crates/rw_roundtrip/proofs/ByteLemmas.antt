-- The bytes of hosts, paths and digits.
use Rattle.std.proofs.Common.{◌≡◌, ◌<◌, ◌≤◌, ◌^◌, ℕ, List, [], ◌∷◌, length, true, false, ◌==◌, nat_le, IsTrue, refl, arith, IsUtf8, decimal}
use Rattle.std.proofs.lemmas.Grind.{common_steps}
use Rattle.std.proofs.lemmas.Bool.{and_parts, and_from, leb-true}
use Rattle.std.proofs.lemmas.Fmt.{decimal_is_IsNumeral, length-decimal-le}
use Rattle.std.proofs.lemmas.Str.{IsUtf8-from_ascii}
use Rattle.std.proofs.lemmas.Str.Ascii.{IsAscii-from_all}
use Rattle.std.proofs.lemmas.List.Elements.{All-cons, All-weaker}
use Rattle.std.proofs.lemmas.List.Sums.{AllPass-from_list_all}
use Rattle.std.specs.Char.{is_ascii_digit, digit_value}
use Rattle.std.specs.List.{All, list_all}
use Rattle.std.specs.Str.Parse.{AllDigits}
use Rattle.httparse.specs.Grammar.{AllPass, is_uri_byte, is_value_byte, is_ows}
use Rattle.rw_types.specs.Labels.{is_word_of}
use Rattle.rw_types.specs.Requests.{is_host_byte, is_path_byte, is_host_name, is_request_path}

-- a byte of a path is visible ASCII
pub path_byte : (b : ℕ) → is_path_byte b ≡ true → (32 < b) × (b < 127)
path_byte b h = grind (arith, common_steps)

slash : (b : ℕ) → (b == 47) ≡ true → (32 < b) × (b < 127)
slash b h = grind (arith, common_steps)

host_byte : (b : ℕ) → is_host_byte b ≡ true → is_value_byte b ≡ true
host_byte b h = grind (arith, common_steps)

digit_byte : (b : ℕ) → is_ascii_digit b ≡ true → is_value_byte b ≡ true
digit_byte b h = grind (arith, common_steps)

uri_byte : (b : ℕ) → (32 < b) × (b < 127) → is_uri_byte b ≡ true
uri_byte b h = grind (arith, common_steps)

digit_of : (b : ℕ) → digit_value b < 10 → is_ascii_digit b ≡ true
digit_of b h = grind (arith, common_steps)

pub no_ows : (b : ℕ) → is_ascii_digit b ≡ true → is_ows b ≡ false
no_ows b h = grind (arith, common_steps)

-- a path is a target
pub record IsTarget (path : List ℕ) : Type 0 where
  pub some : 0 < length path
  pub visible : AllPass is_uri_byte path
  pub text : IsUtf8 path
  pub short : length path ≤ 255

target_of : (b : ℕ) (bs : List ℕ) → (b == 47) ≡ true → list_all is_path_byte bs ≡ true → nat_le (length (b ∷ bs)) 255 ≡ true → IsTarget (b ∷ bs)
target_of b bs first rest few =
    let visible : All (λ x. (32 < x) × (x < 127)) (b ∷ bs) =
    All-cons (λ x. (32 < x) × (x < 127)) b bs (slash b first)
    (All-weaker (λ x. is_path_byte x ≡ true) (λ x. (32 < x) × (x < 127)) path_byte bs (AllPass-from_list_all is_path_byte bs rest)) in
    record {
      some = omega arith;
      visible = All-weaker (λ x. (32 < x) × (x < 127)) (λ x. IsTrue (is_uri_byte x)) uri_byte (b ∷ bs) visible;
      text = IsUtf8-from_ascii (b ∷ bs) (IsAscii-from_all (b ∷ bs)
          (All-weaker (λ x. (32 < x) × (x < 127)) (λ x. x < 128) (λ x h. omega (arith, h.1)) (b ∷ bs) visible));
      short = leb-true (length (b ∷ bs)) 255 few;
    }

pub path_is_target : (path : List ℕ) → is_request_path path ≡ true → IsTarget path
path_is_target [] h = absurd (let e : false ≡ true = h in cc)
path_is_target (b ∷ bs) h =
    let parts = and_parts (is_word_of (λ x. x == 47) is_path_byte (b ∷ bs)) (nat_le (length (b ∷ bs)) 255) h in
    let bytes = and_parts (b == 47) (list_all is_path_byte bs) parts.0 in
    target_of b bs bytes.0 bytes.1 parts.1

-- a host is a value
pub record IsValue (value : List ℕ) : Type 0 where
  pub visible : AllPass is_value_byte (32 ∷ value)
  pub short : length value ≤ 255

after_space : (value : List ℕ) → AllPass is_value_byte value → AllPass is_value_byte (32 ∷ value)
after_space value h = All-cons (λ b. IsTrue (is_value_byte b)) 32 value refl h

pub host_is_value : (host : List ℕ) → is_host_name host ≡ true → IsValue host
host_is_value [] h = absurd (let e : false ≡ true = h in cc)
host_is_value (b ∷ bs) h =
    let parts = and_parts (is_word_of is_host_byte is_host_byte (b ∷ bs)) (nat_le (length (b ∷ bs)) 255) h in
    record {
      visible = after_space (b ∷ bs) (All-weaker (λ x. is_host_byte x ≡ true) (λ x. IsTrue (is_value_byte x)) host_byte (b ∷ bs)
          (AllPass-from_list_all is_host_byte (b ∷ bs) parts.0));
      short = leb-true (length (b ∷ bs)) 255 parts.1;
    }

-- the digits of a length
pub record AreDigits (digits : List ℕ) : Type 0 where
  pub all : AllPass is_ascii_digit digits
  pub some : 0 < length digits
  pub few : length digits ≤ 19

all_digits : (ds : List ℕ) → AllDigits 10 ds → list_all is_ascii_digit ds ≡ true
all_digits [] h = refl
all_digits (d ∷ ds) h = and_from (is_ascii_digit d) (list_all is_ascii_digit ds) (digit_of d h.0) (all_digits ds h.1)

pub decimal_is_digits : (n : ℕ) → n < 2 ^ 63 → AreDigits (decimal n)
decimal_is_digits n h =
    let numeral = (decimal_is_IsNumeral n (omega arith)).0 in
    record {
      all = AllPass-from_list_all is_ascii_digit (decimal n) (all_digits (decimal n) numeral.1);
      some = numeral.0;
      few = length-decimal-le 19 n (omega arith) (omega arith) (omega arith);
    }

pub digits_are_value : (digits : List ℕ) → AreDigits digits → AllPass is_value_byte (32 ∷ digits)
digits_are_value digits h =
    after_space digits (All-weaker (λ x. IsTrue (is_ascii_digit x)) (λ x. IsTrue (is_value_byte x)) digit_byte digits h.all)
