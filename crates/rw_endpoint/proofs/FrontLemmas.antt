-- What is at the front of the bytes that wait is at the front of the input.
use Rattle.std.proofs.Common.{◌+◌, ◌<◌, ◌≤◌, false, arith, length, length-append, ◌≡◌, ℕ, List, [], ◌++◌, drop, Bool, true, Option, Some, Result, Ok, Err, refl, sym, subst, ◌∙◌, ap, inl, inr, append_assoc}
use Rattle.std.specs.Io.KnownBytes.{prepend_known}
use Rattle.httparse.specs.Grammar.{IsRequestHead, RequestHead, print_request}
use Rattle.rw_endpoint.specs.Reading.{BeginsWithHead, NeverHasHead}
use Rattle.rw_endpoint.specs.inner.Reading.{Judges}
use Rattle.rw_endpoint.specs.declared.coding.Coding.{Coding}
use Rattle.rw_endpoint.specs.declared.finding.Finding.TheVariants.{Refused, Body}
use Rattle.rw_endpoint.specs.declared.head.RequestReading.TheVariants.{Head}
use Rattle.rw_endpoint.specs.Replies.{reply_bytes}
use Rattle.rw_endpoint.specs.Coding.{through}
use Rattle.rw_endpoint.specs.Serving.{Replies, AsksForBody}
use Rattle.rw_endpoint.specs.inner.Steps.{IsBodyAnswered, HasBodyServed, HasServed}
use Rattle.rw_endpoint.specs.declared.serve_end.ServeEnd.{ServeEnd}
use Rattle.rw_endpoint.specs.declared.serve_end.ServeEnd.TheVariants.{Eof, Closed, Torn, Device, OutOfMemory}
use Rattle.rw_endpoint.proofs.KnownLemmas.{prepend_split}
use Rattle.rw_endpoint.specs.declared.intake.Intake.{Intake}

-- more bytes after a head
pub begins_more : (p y : List ℕ) (head : RequestHead) (rest : List ℕ) → BeginsWithHead p head rest → BeginsWithHead (p ++ y) head (rest ++ y)
begins_more p y head rest b =
    ((b.0.0, ap (λ t. t ++ y) b.0.1 ∙ append_assoc (print_request head) rest y), b.1, b.2)

-- more bytes if no head can be
pub never_more : (p y : List ℕ) → NeverHasHead p → NeverHasHead (p ++ y)
never_more p y never more head rest b =
    never (y ++ more) head rest (subst (λ (t : List ℕ). BeginsWithHead t head rest) (append_assoc p y more) b)

-- bytes that no head begins
pub no_request : {S : Type 0} (path : List ℕ) (intake : Intake) (answers : S → List ℕ → ℕ → S → Type 0) (p : List ℕ) (r : Option (List ℕ)) (input : List ℕ) (s : S) →
    NeverHasHead p → prepend_known p r ≡ Some input → Replies path intake answers input s (reply_bytes 400 true) [] true s
no_request path intake answers p r input s never e =
    let split = prepend_split p r input e in
    inl (record { never = subst NeverHasHead (sym split.2) (never_more p split.0 never); written = refl; closing = refl; unasked = refl })

-- a request that its head refuses
pub refused : {S : Type 0} (path : List ℕ) (intake : Intake) (answers : S → List ℕ → ℕ → S → Type 0) (p : List ℕ) (r : Option (List ℕ)) (input : List ℕ) (s : S) (status len : ℕ) →
    Judges path intake p (Head (Refused status) len) → prepend_known p r ≡ Some input →
    Replies path intake answers input s (reply_bytes status true) [] true s
refused path intake answers p r input s status len j e =
    let split = prepend_split p r input e in
    inr (inl (record { head = j.0; rest = drop len p ++ split.0; status = status; begins = subst (λ (t : List ℕ). BeginsWithHead t j.0 (drop len p ++ split.0)) (sym split.2) (begins_more p split.0 j.0 (drop len p) j.1); finding = sym j.3; written = refl; closing = refl; unasked = refl }))

-- a request whose body is answered
pub body_answered : {S : Type 0} (path : List ℕ) (intake : Intake) (answers : S → List ℕ → ℕ → S → Type 0) (p y rest : List ℕ) (old new : S) (n len : ℕ) (closes : Bool) (coding : Coding) (text : List ℕ) →
    Judges path intake p (Head (Body n closes coding) len) → IsBodyAnswered (through coding answers) n (drop len p ++ y) old text rest closes new →
    Replies path intake answers (p ++ y) old text rest closes new
body_answered path intake answers p y rest old new n len closes coding text j b =
    inr (inr (record {
      head = j.0;
      body = b.body;
      coding = coding;
      status = b.status;
      begins = subst (λ (t : List ℕ). BeginsWithHead (p ++ y) j.0 t) b.begins (begins_more p y j.0 (drop len p) j.1);
      finding = sym j.3 ∙ ap (λ (k : ℕ). Body k closes coding) (sym b.length);
      status_given = b.given;
      written = b.written;
    }))

-- a request that asks for its body
pub asks_for_body : (path : List ℕ) (intake : Intake) (p : List ℕ) (r : Option (List ℕ)) (input : List ℕ) (n len : ℕ) (closes : Bool) (coding : Coding) →
    Judges path intake p (Head (Body n closes coding) len) → prepend_known p r ≡ Some input → AsksForBody path intake input
asks_for_body path intake p r input n len closes coding j e =
    let split = prepend_split p r input e in
    record { head = j.0; rest = drop len p ++ split.0; len = n; closes = closes; coding = coding; begins = subst (λ (t : List ℕ). BeginsWithHead t j.0 (drop len p ++ split.0)) (sym split.2) (begins_more p split.0 j.0 (drop len p) j.1); finding = sym j.3 }

-- what a body became, as what the request became
pub body_served : {S : Type 0} (path : List ℕ) (intake : Intake) (answers : S → List ℕ → ℕ → S → Type 0) (p y : List ℕ) (old new : S) (n len : ℕ) (closes : Bool) (coding : Coding) (text : List ℕ) (after : Option (List ℕ)) (result : Result Unit ServeEnd) →
    Judges path intake p (Head (Body n closes coding) len) → HasBodyServed (through coding answers) n closes (drop len p ++ y) old text after new result →
    HasServed path intake answers (p ++ y) old text after new result
body_served path intake answers p y old new n len closes coding text after (Ok u) j b =
    (b.0, b.1, subst (λ (k : Bool). Replies path intake answers (p ++ y) old text b.0 k new) b.2 (body_answered path intake answers p y b.0 old new n len closes coding text j b.3))
body_served path intake answers p y old new n len closes coding text after (Err Eof) j b = absurd b
body_served path intake answers p y old new n len closes coding text after (Err Closed) j b =
    (b.0, subst (λ (k : Bool). Replies path intake answers (p ++ y) old text b.0 k new) b.1 (body_answered path intake answers p y b.0 old new n len closes coding text j b.2))
body_served path intake answers p y old new n len closes coding text after (Err Torn) j b =
    (inr (j.0, drop len p ++ y, n, closes, coding, begins_more p y j.0 (drop len p) j.1, sym j.3, b.0), b.1)
body_served path intake answers p y old new n len closes coding text after (Err Device) j (inl b) = inl b
body_served path intake answers p y old new n len closes coding text after (Err Device) j (inr b) =
    inr (b.0, b.1, b.2, closes, body_answered path intake answers p y b.2 old new n len closes coding b.0 j b.3, b.4)
body_served path intake answers p y old new n len closes coding text after (Err OutOfMemory) j b = b

-- a head is not empty
pub head_longer : (head : RequestHead) → IsRequestHead head → 0 < length (print_request head)
unfolding print_request
head_longer head h =
    let token : 0 < length head.method = h.method.0 in
    simp length-append (omega (arith, token))

-- a request that keeps the connection takes some bytes of the input
pub shorter : {S : Type 0} (path : List ℕ) (intake : Intake) (answers : S → List ℕ → ℕ → S → Type 0) (input : List ℕ) (old : S) (text rest : List ℕ) (new : S) →
    Replies path intake answers input old text rest false new → length rest < length input
shorter path intake answers input old text rest new (inl b) = absurd (let e : false ≡ true = b.closing in cc)
shorter path intake answers input old text rest new (inr (inl b)) = absurd (let e : false ≡ true = b.closing in cc)
shorter path intake answers input old text rest new (inr (inr b)) =
    let some = head_longer b.head b.begins.0.0 in
    let whole = ap length b.begins.0.1 in
    let parts : length input ≡ length (print_request b.head) + (length b.body + length rest) =
    simp length-append at whole in
    omega (arith, some, parts)

-- what does not fit passes the room
pub no_room : (len room : ℕ) → (len ≤ room → false ≡ true) → room < len
no_room len room over =
    let fits : len ≤ room → ⊥ = λ le. (let e : false ≡ true = over le in cc) in
    omega (arith, fits)
