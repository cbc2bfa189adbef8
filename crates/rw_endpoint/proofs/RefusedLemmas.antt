-- A request that its head refuses.
use Rattle.std.proofs.Common.{◌≡◌, ◌≤◌, ℕ, List, [], ◌++◌, length, Bool, true, false, IsTrue, Option, Some, refl, sym, subst, ◌∙◌, ap, inl, inr, arith, length-append}
use Rattle.std.proofs.lemmas.Bool.{or_right}
use Rattle.rw_endpoint.specs.Judgement.{finding_of, is_refusal}
use Rattle.rw_endpoint.specs.Replies.{reply_bytes, is_verdict}
use Rattle.rw_endpoint.specs.Serving.{Replies, RepliesTo, last, further, Ends, Serves, ends, stays, HasWritten, IsTooSmall, RepliesUpTo, nothing_yet, one_more, AsksForBody, IsStoppedAtBody}
use Rattle.rw_endpoint.specs.Alone.{IsOneRefusal, IsTurnedAway}
use Rattle.rw_endpoint.specs.declared.finding.Finding.TheVariants.{Refused, Body}
use Rattle.rw_endpoint.specs.declared.serve_end.ServeEnd.{ServeEnd}
use Rattle.rw_endpoint.specs.declared.serve_end.ServeEnd.TheVariants.{Eof, Closed, Torn, Device, OutOfMemory}
use Rattle.rw_endpoint.proofs.AloneLemmas.{one_head, FindingWithin, finding_within}
use Rattle.rw_endpoint.proofs.FrontLemmas.{begins_more, head_longer}
use Rattle.rw_endpoint.proofs.shared.ReplyLemmas.{reply_len}
use Rattle.rw_endpoint.specs.declared.intake.Intake.{Intake}

-- the reply
record IsRefusal {S : Type 0} (status : ℕ) (old : S) (text : List ℕ) (closes : Bool) (new : S) : Type 0 where
  closing : closes ≡ true
  unasked : new ≡ old
  written : text ≡ reply_bytes status true

refusal_of : {S : Type 0} (path : List ℕ) (intake : Intake) (answers : S → List ℕ → ℕ → S → Type 0) (input : List ℕ) (status : ℕ) (old : S) (text rest : List ℕ) (closes : Bool) (new : S) →
    IsOneRefusal path intake input status → Replies path intake answers input old text rest closes new → IsRefusal status old text closes new
refusal_of path intake answers input status old text rest closes new one (inl r) =
    absurd (r.never [] one.head (one.rest ++ []) (begins_more input [] one.head one.rest one.begins))
refusal_of path intake answers input status old text rest closes new one (inr (inl r)) =
    let same = one_head input one.head r.head one.rest r.rest one.begins r.begins in
    let e : Refused status ≡ Refused r.status = sym one.finding ∙ ap (finding_of path intake) same.0 ∙ r.finding in
    let statuses : r.status ≡ status = cc in
    record { closing = r.closing; unasked = r.unasked; written = r.written ∙ ap (λ (s : ℕ). reply_bytes s true) statuses }
refusal_of path intake answers input status old text rest closes new one (inr (inr r)) =
    let same = one_head input one.head r.head one.rest (r.body ++ rest) one.begins r.begins in
    absurd (let e : Refused status ≡ Body (length r.body) closes r.coding = sym one.finding ∙ ap (finding_of path intake) same.0 ∙ r.finding in cc)

-- its status
refusal_status : (path : List ℕ) (intake : Intake) (input : List ℕ) (status : ℕ) → IsOneRefusal path intake input status → IsTrue (is_refusal status)
refusal_status path intake input status one = subst (FindingWithin intake.limit) one.finding (finding_within path intake one.head).bound

-- it is short
refusal_len : (path : List ℕ) (intake : Intake) (input : List ℕ) (status : ℕ) → IsOneRefusal path intake input status → length (reply_bytes status true) ≤ 86
refusal_len path intake input status one =
    reply_len status true (or_right (is_verdict status) (is_refusal status) (refusal_status path intake input status one))

replies_short : {S : Type 0} (path : List ℕ) (intake : Intake) (answers : S → List ℕ → ℕ → S → Type 0) (input : List ℕ) (status : ℕ) (old : S) (text : List ℕ) →
    IsOneRefusal path intake input status → RepliesTo path intake answers input old text → length text ≤ 86
replies_short path intake answers input status old text one (last {rest = rest} {closes = closes} {new = new} r) =
    let p = refusal_of path intake answers input status old text rest closes new one r in
    subst (λ (t : List ℕ). length t ≤ 86) (sym p.written) (refusal_len path intake input status one)
replies_short path intake answers input status old text one (further {first = first} {rest = rest} {middle = middle} r more) =
    let p = refusal_of path intake answers input status old first rest false middle one r in
    absurd (let e : false ≡ true = p.closing in cc)

-- no request before it has a reply
nothing_before : {S : Type 0} (path : List ℕ) (intake : Intake) (answers : S → List ℕ → ℕ → S → Type 0) (input : List ℕ) (status : ℕ) (old : S) (text left : List ℕ) (new : S) →
    IsOneRefusal path intake input status → RepliesUpTo path intake answers input old text left new → left ≡ input
nothing_before path intake answers input status old text left new one nothing_yet = refl
nothing_before path intake answers input status old text left new one (one_more {text = so_far} {left = middle} {first = first} {rest = rest} {middle = was} r reply_bytes) =
    let same = nothing_before path intake answers input status old so_far middle was one r in
    let p = refusal_of path intake answers input status was first left false new one
    (subst (λ (t : List ℕ). Replies path intake answers t was first left false new) same reply_bytes) in
    absurd (let e : false ≡ true = p.closing in cc)

-- it asks for no body
asks_none : (path : List ℕ) (intake : Intake) (input : List ℕ) (status : ℕ) → IsOneRefusal path intake input status → AsksForBody path intake input → ⊥
asks_none path intake input status one asks =
    let same = one_head input one.head asks.head one.rest asks.rest one.begins asks.begins in
    let e : Refused status ≡ Body asks.len asks.closes asks.coding = sym one.finding ∙ ap (finding_of path intake) same.0 ∙ asks.finding in
    cc

-- so memory is not what it lacks
memory_enough : {S : Type 0} (path : List ℕ) (intake : Intake) (answers : S → List ℕ → ℕ → S → Type 0) (input : List ℕ) (status : ℕ) (old : S) (before : List ℕ) (contents : Option (List ℕ)) (new : S) →
    IsOneRefusal path intake input status → IsStoppedAtBody path intake answers input old before contents new → ⊥
memory_enough path intake answers input status old before contents new one stopped =
    asks_none path intake input status one
    (subst (AsksForBody path intake) (nothing_before path intake answers input status old stopped.text stopped.left new one stopped.replied) stopped.asks)

-- how such a connection ends
ended : {S : Type 0} (path : List ℕ) (intake : Intake) (answers : S → List ℕ → ℕ → S → Type 0) (input : List ℕ) (status : ℕ) (old : S) (before text : List ℕ) (contents : Option (List ℕ)) (new : S) (how : ServeEnd) →
    IsOneRefusal path intake input status → contents ≡ Some (before ++ text) → Ends path intake answers input old text new how → (how ≡ Device → ⊥) → (how ≡ OutOfMemory → ⊥) →
    IsTurnedAway status old before contents new how
ended path intake answers input status old before text contents new Eof one w e sound enough =
    absurd (let some = head_longer one.head one.begins.0.0 in
    let whole = simp length-append at (ap length one.begins.0.1) in
    let none : length input ≡ 0 = ap length e.0 in
    omega (arith, some, whole, none))
ended path intake answers input status old before text contents new Torn one w ((inl e), silent) sound enough = absurd (e.1.0 one.head one.rest one.begins)
ended path intake answers input status old before text contents new Torn one w ((inr e), silent) sound enough =
    let same = one_head input one.head e.0 one.rest e.1 one.begins e.5 in
    absurd (let f : Refused status ≡ Body e.2 e.3 e.4 = sym one.finding ∙ ap (finding_of path intake) same.0 ∙ e.6 in cc)
ended path intake answers input status old before text contents new Closed one w e sound enough =
    let p = refusal_of path intake answers input status old text e.0 true new one e.1 in
    (p.unasked, refl, refusal_status path intake input status one, w ∙ ap (λ (t : List ℕ). Some (before ++ t)) p.written)
ended path intake answers input status old before text contents new Device one w e sound enough = absurd (sound refl)
ended path intake answers input status old before text contents new OutOfMemory one w e sound enough = absurd (enough refl)

served : {S : Type 0} (path : List ℕ) (intake : Intake) (answers : S → List ℕ → ℕ → S → Type 0) (input : List ℕ) (status : ℕ) (old : S) (before text : List ℕ) (contents : Option (List ℕ)) (new : S) (how : ServeEnd) →
    IsOneRefusal path intake input status → contents ≡ Some (before ++ text) → Serves path intake answers input old text new how → (how ≡ Device → ⊥) → (how ≡ OutOfMemory → ⊥) →
    IsTurnedAway status old before contents new how
served path intake answers input status old before text contents new how one w (ends e) sound enough = ended path intake answers input status old before text contents new how one w e sound enough
served path intake answers input status old before text contents new how one w (stays {first = first} {rest = rest} {middle = middle} r more) sound enough =
    let p = refusal_of path intake answers input status old first rest false middle one r in
    absurd (let e : false ≡ true = p.closing in cc)

-- it is turned away if there is room for a reply
pub turned_away : {S : Type 0} (path : List ℕ) (intake : Intake) (answers : S → List ℕ → ℕ → S → Type 0) (input : List ℕ) (status : ℕ) (old : S) (before : List ℕ) (contents : Option (List ℕ)) (new : S) (how : ServeEnd) (room : ℕ) →
    IsOneRefusal path intake input status → HasWritten path intake answers input old before contents new how → 86 ≤ room →
    (how ≡ Device → IsTooSmall path intake answers input old room) →
    (how ≡ OutOfMemory → IsStoppedAtBody path intake answers input old before contents new) → IsTurnedAway status old before contents new how
turned_away path intake answers input status old before contents new how room one w fits small stopped =
    served path intake answers input status old before w.0 contents new how one w.1 w.2
    (λ e.
    let s = small e in
    let few = replies_short path intake answers input status old s.0 one s.1 in
    omega (arith, few, s.2, fits))
    (λ e. memory_enough path intake answers input status old before contents new one (stopped e))
