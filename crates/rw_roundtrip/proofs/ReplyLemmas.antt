-- Replies of the endpoint, as the sender reads them.
use Rattle.std.proofs.Common.{◌≡◌, ◌<◌, ◌≤◌, ℕ, List, [], ◌∷◌, ◌++◌, length, Bool, true, ◌&&◌, ◌||◌, ◌==◌, nat_lt, nat_le, nat_eq, codes, IsTrue, Some, if◌then◌else◌, refl, sym, ap, ◌∙◌, arith}
use Rattle.std.proofs.lemmas.Bool.{and_parts, ltb-true, leb-true, eqb-true}
use Rattle.std.proofs.lemmas.List.{append-nil}
use Rattle.std.proofs.lemmas.List.Elements.{All-weaker}
use Rattle.std.proofs.lemmas.List.Sums.{AllPass-from_list_all}
use Rattle.std.specs.Char.{is_ascii_digit}
use Rattle.std.specs.List.{list_all}
use Rattle.std.specs.Cmp.Lexicographic.{pointwise, same_text}
use Rattle.httparse.specs.Grammar.{Field, IsField, is_token_byte, is_value_byte, crlf, ResponseHead, print_response, status_code}
use Rattle.httparse.proofs.GrammarLemmas.{response_unique}
use Rattle.rw_shard_core.specs.Replies.{BeginsWith, IsInformational, ReadsReply}
use Rattle.rw_shard_core.specs.declared.replies.ReplyRead.{ReplyRead}
use Rattle.rw_shard_core.specs.declared.replies.ReplyRead.TheVariants.{Status, Partial, Bad}
use Rattle.rw_endpoint.specs.Judgement.{is_refusal}
use Rattle.rw_endpoint.specs.Replies.{reply_bytes, is_verdict, phrase, status_code as code_digits}
use Rattle.rw_roundtrip.proofs.Heads.{field}
use Rattle.rw_endpoint.proofs.shared.ReplyLemmas.{statuses, status_passes}

-- a text that is one head has its status, and nothing else is read
record IsHeadOf (text : List ℕ) (status : ℕ) (head : ResponseHead) : Type 0 where
  begins : BeginsWith 8192 text head []
  code : status ≡ status_code head
  low : 200 ≤ status
  high : status < 1000

one_status : (text : List ℕ) (status : ℕ) (head : ResponseHead) → IsHeadOf text status head → (read : ReplyRead) → ReadsReply 8192 text read → read ≡ Status status
one_status text status head is (Status s) ([], r) =
    let same : head ≡ r.0 = (response_unique text head r.0 [] r.1 is.begins.reads r.2.reads).0 in
    let code : s ≡ status_code head = rw same r.3 in
    ap Status (code ∙ sym is.code)
one_status text status head is (Status s) (k ∷ heads, r) =
    let same : head ≡ k = (response_unique text head k [] r.0 is.begins.reads r.1.reads).0 in
    let info : IsInformational head = rw same r.2 in
    let code = is.code in
    let low = is.low in
    absurd (omega (arith, code, low, info.1))
one_status text status head is Partial ([], r) = absurd (r.0 head [] is.begins.reads)
one_status text status head is Partial (k ∷ heads, r) =
    let same : head ≡ k = (response_unique text head k [] r.0 is.begins.reads r.1.reads).0 in
    let info : IsInformational head = rw same r.2 in
    let code = is.code in
    let low = is.low in
    absurd (omega (arith, code, low, info.1))
one_status text status head is Bad r =
    let whole : text ++ [] ≡ text = append-nil text in
    absurd (r [] status ([], (head, [], rw whole is.begins, is.code, is.low, is.high)))

-- the head of a reply
abbrev reply_fields : ℕ → List Field
reply_fields status =
    (if status == 405 then field (codes "Allow") (codes "POST") ∷ [] else [])
    ++ (if status == 204 then [] else field (codes "Content-Length") (codes "0") ∷ [])
    ++ field (codes "Connection") (codes "close") ∷ []

abbrev reply_head : ℕ → ResponseHead
reply_head status = record {
  blank = [];
  minor = 1;
  digits = code_digits status;
  reason = Some (phrase status);
  line_end = crlf;
  fields = reply_fields status;
  last = crlf;
}

-- tests that compute
abbrev is_field : Field → Bool
is_field f = nat_lt 0 (length f.name) && (list_all is_token_byte f.name && list_all is_value_byte f.raw)

field_from : (f : Field) → is_field f ≡ true → IsField f
field_from f h =
    let a = and_parts (nat_lt 0 (length f.name)) (list_all is_token_byte f.name && list_all is_value_byte f.raw) h in
    let b = and_parts (list_all is_token_byte f.name) (list_all is_value_byte f.raw) a.1 in
    record {
      name = (ltb-true 0 (length f.name) a.0, AllPass-from_list_all is_token_byte f.name b.0);
      raw = AllPass-from_list_all is_value_byte f.raw b.1;
    }

-- the reply is this head
is_reply : (s : ℕ) → IsTrue (is_verdict s || is_refusal s) → IsHeadOf (reply_bytes s true) s (reply_head s)
unfolding reply_bytes print_response is_token_byte
is_reply s h =
    let passes = λ (test : ℕ → Bool) (all : list_all test statuses ≡ true). status_passes test s h all in record {
      begins = record {
        reads = (
          record {
            minor = leb-true 1 1 refl;
            digits = (refl, AllPass-from_list_all is_ascii_digit (code_digits s) (passes (λ n. list_all is_ascii_digit (code_digits n)) refl));
            reason = AllPass-from_list_all is_value_byte (phrase s) (passes (λ n. list_all is_value_byte (phrase n)) refl);
            fields = All-weaker (λ (f : Field). is_field f ≡ true) IsField field_from (reply_fields s) (AllPass-from_list_all is_field (reply_fields s) (passes (λ n. list_all is_field (reply_fields n)) refl));
          },
          same_text (reply_bytes s true) (print_response (reply_head s) ++ []) (sym (passes (λ n. pointwise nat_eq (reply_bytes n true) (print_response (reply_head n) ++ [])) refl)),
        );
        short = leb-true (length (print_response (reply_head s))) 8192 (passes (λ n. nat_le (length (print_response (reply_head n))) 8192) refl);
        few = leb-true (length (reply_fields s)) 64 (passes (λ n. nat_le (length (reply_fields n)) 64) refl);
      };
      code = eqb-true s (status_code (reply_head s)) (passes (λ n. n == status_code (reply_head n)) refl);
      low = leb-true 200 s (passes (λ n. nat_le 200 n) refl);
      high = ltb-true s 1000 (passes (λ n. nat_lt n 1000) refl);
    }

pub reply_status : (status : ℕ) (read : ReplyRead) → IsTrue (is_verdict status || is_refusal status) → ReadsReply 8192 (reply_bytes status true) read → read ≡ Status status
reply_status status read h r = one_status (reply_bytes status true) status (reply_head status) (is_reply status h) read r
