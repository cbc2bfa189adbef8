-- Replies head by head.
use Rattle.std.proofs.Common.{◌≡◌, ℕ, ◌-◌, ◌<◌, ◌≤◌, ◌⊎◌, inl, inr, List, [], ◌∷◌, ◌++◌, length, take, drop, sym, ap, ◌∙◌, arith, length-append}
use Rattle.std.proofs.lemmas.List.{length-map, length-take}
use Rattle.httparse.specs.Grammar.{Field, ResponseHead, ReadsResponse, HasNoResponse, print_response, status_code}
use Rattle.httparse.specs.Spans.{ResponseOverflows, AreFieldsAt, header_bytes, name_and_value}
use Rattle.httparse.specs.declared.spans.HeaderSpan.{HeaderSpan}
use Rattle.httparse.proofs.GrammarLemmas.{response_unique, response_prefix_free, ReadsResponse-append}
use Rattle.rw_shard_core.specs.Replies.{BeginsWith, IsInformational, FollowsHeads, IsAnswerOfStatus, HasNoReply, ReadsReply}
use Rattle.rw_shard_core.specs.declared.replies.ReplyRead.{ReplyRead}
use Rattle.rw_shard_core.specs.declared.replies.ReplyRead.TheVariants.{Status, Partial, Bad}
use Rattle.rw_types.proofs.shared.AnswerLemmas.{front_within}

-- the fields that the spans cover are as many as the spans
pub fields_fit : (buf : List ℕ) (headers : List HeaderSpan) (n : ℕ) (fields : List Field) → AreFieldsAt buf headers n fields →
    length headers ≤ 64 → length fields ≤ 64
fields_fit buf headers n fields e le =
    let same : length (take n headers) ≡ length fields =
    sym (length-map (take n headers) (header_bytes buf)) ∙ ap length e ∙ length-map fields name_and_value in
    omega (arith, same, le, length-take n headers)

-- a head has bytes
pub some_bytes : (h : ResponseHead) → 0 < length (print_response h)
unfolding print_response
some_bytes h = simp length-append (omega arith)

-- a head that is not below 100 is at the front of each reply
first_head : (room : ℕ) (text : List ℕ) (heads : List ResponseHead) (status : ℕ) → FollowsHeads (IsAnswerOfStatus status) room text heads →
    (h : ResponseHead) × (rest : List ℕ) × BeginsWith room text h rest × (100 ≤ status_code h)
first_head room text [] status r = (r.0, r.1, r.2, omega (arith, r.3, r.4))
first_head room text (h ∷ heads) status r = (h, r.0, r.1, r.2.0)

-- a full buffer without a head never becomes a reply
pub full_bad : (room : ℕ) (text : List ℕ) → HasNoResponse text → room ≤ length text → ReadsReply room text Bad
full_bad room text none full more status r =
    let f = first_head room (text ++ more) r.0 status r.1 in
    none f.0 (drop (length (print_response f.0)) text)
    (f.2.reads.0, front_within text more (print_response f.0) f.1 f.2.reads.1 (omega (arith, full, f.2.short)))

-- nor does one whose every head has too many fields
pub overflow_bad : (room : ℕ) (text : List ℕ) → ResponseOverflows 64 text → ReadsReply room text Bad
overflow_bad room text over more status r =
    let f = first_head room (text ++ more) r.0 status r.1 in
    absurd (omega (arith, over more f.0 f.1 f.2.reads, f.2.few))

-- nor does one whose head is too long or has no status
pub head_bad : (room : ℕ) (text : List ℕ) (h : ResponseHead) (rest : List ℕ) → ReadsResponse text h rest →
    (room < length (print_response h)) ⊎ (status_code h < 100) → ReadsReply room text Bad
head_bad room text h rest reads wrong more status r =
    let f = first_head room (text ++ more) r.0 status r.1 in
    let same : h ≡ f.0 = (response_prefix_free text more h f.0 rest f.1 reads f.2.reads).0 in
    let short : length (print_response h) ≤ room = rw same f.2.short in
    let high : 100 ≤ status_code h = rw same f.3 in
    absurd (elim wrong [ inl long ↦ omega (arith, short, long) | inr low ↦ omega (arith, high, low) ])

-- an informational head is passed over
no_reply_after : (room : ℕ) (text : List ℕ) (h : ResponseHead) (rest : List ℕ) → ReadsResponse text h rest →
    IsInformational h → HasNoReply (room - length (print_response h)) rest → HasNoReply room text
no_reply_after room text h rest reads info none status ([], r) =
    let same : h ≡ r.0 = (response_unique text h r.0 rest r.1 reads r.2.reads).0 in
    let code : status ≡ status_code h = rw same r.3 in
    omega (arith, code, r.4, info.1)
no_reply_after room text h rest reads info none status (k ∷ heads, r) =
    let both = response_unique text h k rest r.0 reads r.1.reads in
    let at : FollowsHeads (IsAnswerOfStatus status) (room - length (print_response h)) rest heads = rw (both.0, both.1) r.3 in
    none status (heads, at)

pub passed_over : (room : ℕ) (text : List ℕ) (h : ResponseHead) (rest : List ℕ) → BeginsWith room text h rest →
    IsInformational h → (read : ReplyRead) → ReadsReply (room - length (print_response h)) rest read → ReadsReply room text read
passed_over room text h rest begins info (Status status) r = (h ∷ r.0, (rest, begins, info, r.1))
passed_over room text h rest begins info Partial r = (h ∷ r.0, (rest, begins, info, r.1))
passed_over room text h rest begins info Bad r = λ more.
    no_reply_after room (text ++ more) h (rest ++ more) (ReadsResponse-append text h rest more begins.reads) info (r more)
