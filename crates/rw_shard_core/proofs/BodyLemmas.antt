-- The body of a request comes after its first empty line.
use Rattle.std.proofs.Common.{◌≡◌, ◌≢◌, ◌<◌, ◌^◌, ℕ, nat_eq, nat_le, List, [], ◌∷◌, ◌++◌, length, codes, decimal, Bool, true, false, refl, sym, ap, ◌∙◌, arith, append_assoc, length-append}
use Rattle.std.proofs.lemmas.Bool.{and_parts, eqb-true}
use Rattle.std.proofs.lemmas.Fmt.{decimal_is_IsNumeral}
use Rattle.std.proofs.lemmas.Grind.{common_steps}
use Rattle.std.proofs.lemmas.List.{append_cancel_left}
use Rattle.std.specs.List.{AllByRecursion, list_all}
use Rattle.std.specs.Char.{digit_value}
use Rattle.std.specs.Str.Parse.{AllDigits}
use Rattle.rw_types.specs.Labels.{is_word_of}
use Rattle.rw_types.specs.Requests.{is_host_byte, is_path_byte, is_host_name, is_request_path}
use Rattle.rw_shard_core.specs.SentRequest.{request_head, request_of}
use Rattle.rw_shard_core.specs.inner.Requests.{fields_in, after_blank_line}
use Rattle.rw_shard_core.proofs.RequestLemmas.{parts_of_head}

-- ---- bytes that are no CR
abbrev HasNoReturn : List ℕ → Type 0
HasNoReturn = AllByRecursion (λ b. b ≢ 13)

is-apart : (test : ℕ → Bool) → test 13 ≡ false → (b : ℕ) → test b ≡ true → b ≢ 13
is-apart test none b e same = absurd (let both : test 13 ≡ true = ap test (sym same) ∙ e in cc)

none-if-all : (test : ℕ → Bool) → test 13 ≡ false → (bytes : List ℕ) → list_all test bytes ≡ true → HasNoReturn bytes
none-if-all test none [] e = tt
none-if-all test none (b ∷ bytes) e =
    let both = and_parts (test b) (list_all test bytes) e in
    (is-apart test none b both.0, none-if-all test none bytes both.1)

none-in-word : (begins continues : ℕ → Bool) → begins 13 ≡ false → continues 13 ≡ false → (bytes : List ℕ) → is_word_of begins continues bytes ≡ true → HasNoReturn bytes
none-in-word begins continues first later [] e = tt
none-in-word begins continues first later (b ∷ bytes) e =
    let both = and_parts (begins b) (list_all continues bytes) e in
    (is-apart begins first b both.0, none-if-all continues later bytes both.1)

none-in-host : (host : List ℕ) → is_host_name host ≡ true → HasNoReturn host
none-in-host host e = none-in-word is_host_byte is_host_byte refl refl host (and_parts (is_word_of is_host_byte is_host_byte host) (nat_le (length host) 255) e).0

none-in-path : (path : List ℕ) → is_request_path path ≡ true → HasNoReturn path
none-in-path path e = none-in-word (λ b. nat_eq b 47) is_path_byte refl refl path (and_parts (is_word_of (λ b. nat_eq b 47) is_path_byte path) (nat_le (length path) 255) e).0

not-digit : (b : ℕ) → digit_value b < 10 → b ≢ 13
not-digit b h = grind (arith, common_steps)

none-in-digits : (digits : List ℕ) → AllDigits 10 digits → HasNoReturn digits
none-in-digits [] h = tt
none-in-digits (d ∷ digits) h = (not-digit d h.0, none-in-digits digits h.1)

none-in-decimal : (n : ℕ) → n < 2 ^ 64 → HasNoReturn (decimal n)
none-in-decimal n lt = none-in-digits (decimal n) (decimal_is_IsNumeral n lt).0.1

-- ---- what is passed over
not-here : (b : ℕ) → b ≢ 13 → nat_eq 13 b ≡ false
not-here b other = by_test (nat_eq 13 b) refl
  where
    by_test : (t : Bool) → nat_eq 13 b ≡ t → nat_eq 13 b ≡ false
    by_test true e = absurd (other (sym (eqb-true 13 b e)))
    by_test false e = e

passes : (bytes rest : List ℕ) → HasNoReturn bytes → after_blank_line (bytes ++ rest) ≡ after_blank_line rest
unfolding after_blank_line
passes [] rest none = refl
passes (b ∷ bytes) rest none = rw (not-here b none.0) (passes bytes rest none.1)

passes-method : (rest : List ℕ) → after_blank_line (codes "POST " ++ rest) ≡ after_blank_line rest
unfolding after_blank_line
passes-method rest = refl

passes-version : (rest : List ℕ) → after_blank_line (codes " HTTP/1.1\r\nHost: " ++ rest) ≡ after_blank_line rest
unfolding after_blank_line
passes-version rest = refl

passes-fields : (rest : List ℕ) → after_blank_line (fields_in false ++ rest) ≡ after_blank_line rest
unfolding after_blank_line
passes-fields rest = refl

is-end : (rest : List ℕ) → after_blank_line (codes "\r\n\r\n" ++ rest) ≡ rest
unfolding after_blank_line
is-end rest = refl

-- ---- a request
in-a-row : (a b c d e f g body : List ℕ) → ((((((a ++ b) ++ c) ++ d) ++ e) ++ f) ++ g) ++ body ≡ a ++ (b ++ (c ++ (d ++ (e ++ (f ++ (g ++ body))))))
in-a-row a b c d e f g body = simp append_assoc

body-after : (host path digits body : List ℕ) → HasNoReturn host → HasNoReturn path → HasNoReturn digits → after_blank_line (request_head host path digits ++ body) ≡ body
body-after host path digits body h p d =
    let end = codes "\r\n\r\n" ++ body in
    let row = ap (λ (t : List ℕ). t ++ body) (sym (parts_of_head false [] host path digits))
    ∙ in-a-row (codes "POST ") path (codes " HTTP/1.1\r\nHost: ") host (fields_in false) digits (codes "\r\n\r\n") body in
    ap after_blank_line row
    ∙ passes-method (path ++ (codes " HTTP/1.1\r\nHost: " ++ (host ++ (fields_in false ++ (digits ++ end)))))
    ∙ passes path (codes " HTTP/1.1\r\nHost: " ++ (host ++ (fields_in false ++ (digits ++ end)))) p
    ∙ passes-version (host ++ (fields_in false ++ (digits ++ end)))
    ∙ passes host (fields_in false ++ (digits ++ end)) h
    ∙ passes-fields (digits ++ end)
    ∙ passes digits end d
    ∙ is-end body

pub body-of-request : (host path request body : List ℕ) → is_host_name host ≡ true → is_request_path path ≡ true → length request < 2 ^ 64 → request ≡ request_of host path body → after_blank_line request ≡ body
body-of-request host path request body h p few is =
    let len = ap length is ∙ length-append (request_head host path (decimal (length body))) body in
    ap after_blank_line is ∙ body-after host path (decimal (length body)) body (none-in-host host h) (none-in-path path p) (none-in-decimal (length body) (omega (arith, len, few)))

-- if the head of this length is a prefix, what is left is the body
pub found-body : (host path head request left : List ℕ) (len : ℕ) → head ≡ request_head host path (decimal len) → length left ≡ len → request ≡ head ++ left → request ≡ request_of host path left
found-body host path head request left len is same e =
    e ∙ ap (λ (h : List ℕ). h ++ left) (is ∙ ap (λ (n : ℕ). request_head host path (decimal n)) (sym same))

-- a body has the length of what comes after the first empty line, and the head is a prefix
pub begins-so : (host path head request body : List ℕ) → is_host_name host ≡ true → is_request_path path ≡ true → length request < 2 ^ 64 →
    head ≡ request_head host path (decimal (length (after_blank_line request))) → request ≡ request_of host path body → request ≡ head ++ body
begins-so host path head request body h p few is e =
    e ∙ ap (λ (d : List ℕ). d ++ body) (ap (λ (b : List ℕ). request_head host path (decimal (length b))) (sym (body-of-request host path request body h p few e)) ∙ sym is)

pub not-longer : (host path head request body left : List ℕ) → is_host_name host ≡ true → is_request_path path ≡ true → length request < 2 ^ 64 →
    head ≡ request_head host path (decimal (length (after_blank_line request))) → request ≡ request_of host path body → request ≡ head ++ left → length left ≡ length (after_blank_line request)
not-longer host path head request body left h p few is e at =
    ap length (append_cancel_left head left body (sym at ∙ begins-so host path head request body h p few is e)) ∙ ap length (sym (body-of-request host path request body h p few e))
