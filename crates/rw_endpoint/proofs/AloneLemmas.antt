-- One request on a connection of its own.
use Rattle.std.proofs.Common.{◌≡◌, ◌≤◌, ℕ, List, [], ◌∷◌, ◌++◌, length, Bool, true, false, not, ◌||◌, nat_lt, codes, map, if◌then◌else◌, IsTrue, Option, None, Some, Result, Ok, refl, sym, subst, ◌∙◌, ap, inl, inr, arith, length-append}
use Rattle.std.proofs.lemmas.List.{append-nil}
use Rattle.std.proofs.lemmas.Bool.{ltb-false}
use Rattle.std.specs.Str.{bytes_eq}
use Rattle.httparse.specs.Grammar.{RequestHead}
use Rattle.httparse.specs.Spans.{name_and_value}
use Rattle.httparse.proofs.GrammarLemmas.{request_unique}
use Rattle.rw_endpoint.specs.Coding.{coding_of, text_of, through, IsAnswered}
use Rattle.rw_endpoint.specs.Judgement.{closes_after, finding_of, body_finding, coded_finding, is_refusal}
use Rattle.rw_endpoint.specs.Fields.{NameValue, has_field}
use Rattle.rw_endpoint.specs.Values.{announced}
use Rattle.rw_endpoint.specs.Reading.{BeginsWithHead}
use Rattle.rw_endpoint.specs.Replies.{reply_bytes, is_verdict}
use Rattle.rw_endpoint.specs.Serving.{Replies, RepliesTo, last, further, Ends, Serves, ends, stays, HasWritten, IsTooSmall}
use Rattle.rw_endpoint.specs.Alone.{IsOneRequest, IsServedAlone}
use Rattle.rw_endpoint.specs.declared.coding.Coding.{Coding}
use Rattle.rw_endpoint.specs.declared.finding.Finding.{Finding}
use Rattle.rw_endpoint.specs.declared.finding.Finding.TheVariants.{Refused, Body}
use Rattle.rw_endpoint.specs.declared.serve_end.ServeEnd.{ServeEnd}
use Rattle.rw_endpoint.specs.declared.serve_end.ServeEnd.TheVariants.{Eof, Closed, Torn, Device, OutOfMemory}
use Rattle.rw_endpoint.proofs.FrontLemmas.{begins_more, head_longer}
use Rattle.rw_endpoint.proofs.shared.ReplyLemmas.{reply_len, verdict_status}
use Rattle.rw_endpoint.specs.declared.intake.Intake.{Intake}

-- an input begins with one head
pub one_head : (input : List ℕ) (head other : RequestHead) (rest left : List ℕ) → BeginsWithHead input head rest → BeginsWithHead input other left →
    (head ≡ other) × (rest ≡ left)
one_head input head other rest left a b = request_unique input head other rest left a.0 b.0

-- a list that is no longer than its front is that front
whole_front : (body part left : List ℕ) → body ≡ part ++ left → length part ≡ length body → part ≡ body
whole_front body part [] e same = sym (e ∙ append-nil part)
whole_front body part (b ∷ left) e same = absurd (let len = simp length-append at (ap length e) in omega (arith, len, same))

-- the one reply
record IsReply {S : Type 0} (answers : S → List ℕ → ℕ → S → Type 0) (held : List ℕ) (old : S) (text : List ℕ) (closes : Bool) (new : S) : Type 0 where
  status : ℕ
  closing : closes ≡ true
  given : answers old held status new
  verdict : IsTrue (is_verdict status)
  written : text ≡ reply_bytes status true

-- bodies of one length after one head
answered : {S : Type 0} (path : List ℕ) (intake : Intake) (answers : S → List ℕ → ℕ → S → Type 0) (head : RequestHead) (held body part left text : List ℕ) (old : S) (closes : Bool) (status : ℕ) (new : S) (coding other : Coding) →
    finding_of path intake head ≡ Body (length body) true coding → finding_of path intake head ≡ Body (length part) closes other → body ≡ part ++ left →
    text_of coding body ≡ Ok held → through other answers old part status new → text ≡ reply_bytes status closes → IsReply answers held old text closes new
answered path intake answers head held body part left text old closes status new coding other f h e holds given written =
    let len : length part ≡ length body = cc in
    let closing : closes ≡ true = cc in
    let same : other ≡ coding = cc in
    let whole = whole_front body part left e len in
    let told : text_of other part ≡ Ok held = ap (λ (k : Coding). text_of k part) same ∙ ap (text_of coding) whole ∙ holds in
    let answer = subst (λ (t : Result (List ℕ) ℕ). IsAnswered answers t old status new) told given in
    record {
      status = status;
      closing = closing;
      given = answer.0;
      verdict = answer.1;
      written = written ∙ ap (reply_bytes status) closing;
    }

-- what replies to it
one_reply : {S : Type 0} (path : List ℕ) (intake : Intake) (answers : S → List ℕ → ℕ → S → Type 0) (input held : List ℕ) (old : S) (text rest : List ℕ) (closes : Bool) (new : S) →
    IsOneRequest path intake input held → Replies path intake answers input old text rest closes new → IsReply answers held old text closes new
one_reply path intake answers input held old text rest closes new one (inl r) =
    absurd (r.never [] one.head (one.body ++ []) (begins_more input [] one.head one.body one.begins))
one_reply path intake answers input held old text rest closes new one (inr (inl r)) =
    let same = one_head input one.head r.head one.body r.rest one.begins r.begins in
    absurd (let e : Body (length one.body) true one.coding ≡ Refused r.status = sym one.finding ∙ ap (finding_of path intake) same.0 ∙ r.finding in cc)
one_reply path intake answers input held old text rest closes new one (inr (inr r)) =
    let same = one_head input one.head r.head one.body (r.body ++ rest) one.begins r.begins in
    answered path intake answers one.head held one.body r.body rest text old closes r.status new one.coding r.coding one.finding (ap (finding_of path intake) same.0 ∙ r.finding) same.1 one.holds r.status_given r.written

-- all replies to it
replies_short : {S : Type 0} (path : List ℕ) (intake : Intake) (answers : S → List ℕ → ℕ → S → Type 0) (input held : List ℕ) (old : S) (text : List ℕ) →
    IsOneRequest path intake input held → RepliesTo path intake answers input old text → length text ≤ 86
replies_short path intake answers input held old text one (last {rest = rest} {closes = closes} {new = new} r) =
    let p = one_reply path intake answers input held old text rest closes new one r in
    subst (λ (t : List ℕ). length t ≤ 86) (sym p.written) (reply_len p.status true (verdict_status p.status p.verdict))
replies_short path intake answers input held old text one (further {first = first} {rest = rest} {middle = middle} r more) =
    let p = one_reply path intake answers input held old first rest false middle one r in
    absurd (let e : false ≡ true = p.closing in cc)

-- a refusal has one of its statuses, and a body that is asked for has at most this many bytes
abbrev pub FindingWithin : ℕ → Finding → Type 0
FindingWithin limit (Refused status) = IsTrue (is_refusal status)
FindingWithin limit (Body len closes coding) = len ≤ limit

pub record StaysWithin (limit : ℕ) (finding : Finding) : Type 0 where
  pub bound : FindingWithin limit finding

one_of : (limit : ℕ) (b : Bool) (x y : Finding) → StaysWithin limit x → StaysWithin limit y → StaysWithin limit (if b then x else y)
one_of limit true x y p q = p
one_of limit false x y p q = q

refused_within : (limit status : ℕ) → IsTrue (is_refusal status) → StaysWithin limit (Refused status)
refused_within limit status e = record { bound = e }

length_within : (limit len : ℕ) (b : Bool) (x : Finding) → nat_lt limit len ≡ b → (len ≤ limit → StaysWithin limit x) →
    StaysWithin limit (if b then Refused 413 else x)
length_within limit len true x e p = refused_within limit 413 refl
length_within limit len false x e p = p (ltb-false limit len e)

coded_within : (limit len : ℕ) (closes : Bool) (coding : Option Coding) → len ≤ limit → StaysWithin limit (coded_finding len closes coding)
coded_within limit len closes None few = refused_within limit 415 refl
coded_within limit len closes (Some coding) few = record { bound = few }

body_within : (intake : Intake) (minor : ℕ) (fields : List NameValue) (n : Option ℕ) → StaysWithin intake.limit (body_finding intake minor fields n)
body_within intake minor fields None = refused_within intake.limit 400 refl
body_within intake minor fields (Some n) =
    length_within intake.limit n (nat_lt intake.limit n) _ refl
    (λ (few : n ≤ intake.limit). one_of intake.limit _ (Refused 415) _ (refused_within intake.limit 415 refl)
    (coded_within intake.limit n (closes_after minor fields) (coding_of intake fields) few))

pub finding_within : (path : List ℕ) (intake : Intake) (head : RequestHead) → StaysWithin intake.limit (finding_of path intake head)
finding_within path intake head =
    let fields = map name_and_value head.fields in
    one_of intake.limit (not (bytes_eq head.target path)) _ _ (refused_within intake.limit 404 refl)
    (one_of intake.limit (not (bytes_eq head.method (codes "POST"))) _ _ (refused_within intake.limit 405 refl)
    (one_of intake.limit (has_field (codes "transfer-encoding") fields || not (has_field (codes "content-length") fields)) _ _ (refused_within intake.limit 411 refl)
    (body_within intake head.minor fields (announced fields))))

-- how such a connection ends
ended : {S : Type 0} (path : List ℕ) (intake : Intake) (answers : S → List ℕ → ℕ → S → Type 0) (input held : List ℕ) (old : S) (before text : List ℕ) (contents : Option (List ℕ)) (new : S) (how : ServeEnd) →
    IsOneRequest path intake input held → contents ≡ Some (before ++ text) → Ends path intake answers input old text new how → (how ≡ Device → ⊥) →
    IsServedAlone answers held old before contents new how
ended path intake answers input held old before text contents new Eof one w e sound =
    absurd (let some = head_longer one.head one.begins.0.0 in
    let whole = simp length-append at (ap length one.begins.0.1) in
    let none : length input ≡ 0 = ap length e.0 in
    omega (arith, some, whole, none))
ended path intake answers input held old before text contents new Torn one w ((inl e), silent) sound = absurd (e.1.0 one.head one.body one.begins)
ended path intake answers input held old before text contents new Torn one w ((inr e), silent) sound =
    let same = one_head input one.head e.0 one.body e.1 one.begins e.5 in
    absurd (let f : Body (length one.body) true one.coding ≡ Body e.2 e.3 e.4 = sym one.finding ∙ ap (finding_of path intake) same.0 ∙ e.6 in
    let len : length one.body ≡ e.2 = cc in
    let part : length one.body ≡ length e.1 = ap length same.1 in
    omega (arith, len, part, e.7))
ended path intake answers input held old before text contents new Closed one w e sound =
    let p = one_reply path intake answers input held old text e.0 true new one e.1 in
    inl (refl, p.status, p.given, p.verdict, w ∙ ap (λ (t : List ℕ). Some (before ++ t)) p.written)
ended path intake answers input held old before text contents new Device one w e sound = absurd (sound refl)
ended path intake answers input held old before text contents new OutOfMemory one w e sound =
    inr (refl, e.1, w ∙ ap (λ (t : List ℕ). Some (before ++ t)) e.0 ∙ ap Some (append-nil before))

served : {S : Type 0} (path : List ℕ) (intake : Intake) (answers : S → List ℕ → ℕ → S → Type 0) (input held : List ℕ) (old : S) (before text : List ℕ) (contents : Option (List ℕ)) (new : S) (how : ServeEnd) →
    IsOneRequest path intake input held → contents ≡ Some (before ++ text) → Serves path intake answers input old text new how → (how ≡ Device → ⊥) →
    IsServedAlone answers held old before contents new how
served path intake answers input held old before text contents new how one w (ends e) sound = ended path intake answers input held old before text contents new how one w e sound
served path intake answers input held old before text contents new how one w (stays {first = first} {rest = rest} {middle = middle} r more) sound =
    let p = one_reply path intake answers input held old first rest false middle one r in
    absurd (let e : false ≡ true = p.closing in cc)

-- it is served alone if there is room for a reply
pub served_alone : {S : Type 0} (path : List ℕ) (intake : Intake) (answers : S → List ℕ → ℕ → S → Type 0) (input held : List ℕ) (old : S) (before : List ℕ) (contents : Option (List ℕ)) (new : S) (how : ServeEnd) (room : ℕ) →
    IsOneRequest path intake input held → HasWritten path intake answers input old before contents new how → 86 ≤ room →
    (how ≡ Device → IsTooSmall path intake answers input old room) → IsServedAlone answers held old before contents new how
served_alone path intake answers input held old before contents new how room one w fits small =
    served path intake answers input held old before w.0 contents new how one w.1 w.2 (λ e.
    let s = small e in
    let few = replies_short path intake answers input held old s.0 one s.1 in
    omega (arith, few, s.2, fits))
