-- A connection whose bodies are answered in one way, as one whose bodies are answered in another
-- way, which is seen of that.
use Rattle.std.proofs.Common.{◌≡◌, ℕ, List, Some, Bool, false, true, Result, Ok, Err, inl, inr, sym, ap, subst}
use Rattle.rw_endpoint.specs.Coding.{IsAnswered, text_of}
use Rattle.rw_endpoint.specs.Serving.{Replies, IsSilent, Ends, Serves, ends, stays}
use Rattle.rw_endpoint.specs.declared.intake.Intake.{Intake}
use Rattle.rw_endpoint.specs.declared.serve_end.ServeEnd.{ServeEnd}
use Rattle.rw_endpoint.specs.declared.serve_end.ServeEnd.TheVariants.{Eof, Closed, Torn, Device, OutOfMemory}

-- Of what keeps this property, each answer is seen as one of the others, and it keeps the property.
abbrev pub AreSeenAs : {S T : Type 0} → (S → List ℕ → ℕ → S → Type 0) → (T → List ℕ → ℕ → T → Type 0) → (S → T) → (S → Type 0) → Type 0
AreSeenAs {S} answers others see holds =
    (old : S) (body : List ℕ) (status : ℕ) (new : S) → holds old → answers old body status new → others (see old) body status (see new) × holds new

answered_as : {S T : Type 0} (answers : S → List ℕ → ℕ → S → Type 0) (others : T → List ℕ → ℕ → T → Type 0) (see : S → T) (holds : S → Type 0) → AreSeenAs answers others see holds
    → (text : Result (List ℕ) ℕ) (old : S) (status : ℕ) (new : S) → holds old → IsAnswered answers text old status new → IsAnswered others text (see old) status (see new) × holds new
answered_as answers others see holds so (Ok text) old status new h a = ((((so old text status new h a.0).0), a.1), (so old text status new h a.0).1)
answered_as {S} answers others see holds so (Err refusal) old status new h a = ((a.0, ap see a.1), subst holds (sym a.1) h)

replies_as : {S T : Type 0} (path : List ℕ) (intake : Intake) (answers : S → List ℕ → ℕ → S → Type 0) (others : T → List ℕ → ℕ → T → Type 0) (see : S → T) (holds : S → Type 0) → AreSeenAs answers others see holds
    → (input : List ℕ) (old : S) (text rest : List ℕ) (closes : Bool) (new : S) → holds old → Replies path intake answers input old text rest closes new
    → Replies path intake others input (see old) text rest closes (see new) × holds new
replies_as path intake answers others see holds so input old text rest closes new h (inl b) =
    (inl (record { never = b.never; written = b.written; closing = b.closing; unasked = ap see b.unasked }), subst holds (sym b.unasked) h)
replies_as path intake answers others see holds so input old text rest closes new h (inr (inl b)) =
    (inr (inl (record { head = b.head; rest = b.rest; status = b.status; begins = b.begins; finding = b.finding; written = b.written; closing = b.closing; unasked = ap see b.unasked })), subst holds (sym b.unasked) h)
replies_as path intake answers others see holds so input old text rest closes new h (inr (inr b)) =
    let a = answered_as answers others see holds so (text_of b.coding b.body) old b.status new h b.status_given in
    (inr (inr (record { head = b.head; body = b.body; coding = b.coding; status = b.status; begins = b.begins; finding = b.finding; status_given = a.0; written = b.written })), a.1)

silent_as : {S T : Type 0} (see : S → T) (old : S) (text : List ℕ) (new : S) → IsSilent old text new → IsSilent (see old) text (see new)
silent_as see old text new s = (s.0, ap see s.1)

ends_as : {S T : Type 0} (path : List ℕ) (intake : Intake) (answers : S → List ℕ → ℕ → S → Type 0) (others : T → List ℕ → ℕ → T → Type 0) (see : S → T) (holds : S → Type 0) → AreSeenAs answers others see holds
    → (input : List ℕ) (old : S) (text : List ℕ) (new : S) (how : ServeEnd) → holds old → Ends path intake answers input old text new how → Ends path intake others input (see old) text (see new) how
ends_as path intake answers others see holds so input old text new Eof h e = (e.0, silent_as see old text new e.1)
ends_as path intake answers others see holds so input old text new Torn h e = (e.0, silent_as see old text new e.1)
ends_as path intake answers others see holds so input old text new Closed h e = (e.0, (replies_as path intake answers others see holds so input old text e.0 true new h e.1).0)
ends_as path intake answers others see holds so input old text new Device h (inl e) = inl (silent_as see old text new e)
ends_as path intake answers others see holds so input old text new Device h (inr e) =
    inr (e.0, e.1, e.2, e.3, (replies_as path intake answers others see holds so input old e.0 e.2 e.3 new h e.4).0, e.5)
ends_as path intake answers others see holds so input old text new OutOfMemory h e = silent_as see old text new e

pub served_as : {S T : Type 0} (path : List ℕ) (intake : Intake) (answers : S → List ℕ → ℕ → S → Type 0) (others : T → List ℕ → ℕ → T → Type 0) (see : S → T) (holds : S → Type 0) → AreSeenAs answers others see holds
    → (input : List ℕ) (old : S) (text : List ℕ) (new : S) (how : ServeEnd) → holds old → Serves path intake answers input old text new how → Serves path intake others input (see old) text (see new) how
served_as path intake answers others see holds so input old text new how h (ends e) =
    ends (ends_as path intake answers others see holds so input old text new how h e)
served_as path intake answers others see holds so input old text new how h (stays {first = first} {rest = rest} {middle = middle} {text = tail} r more) =
    let one = replies_as path intake answers others see holds so input old first rest false middle h r in
    stays one.0 (served_as path intake answers others see holds so rest middle tail new how one.1 more)

pub some_same : (x y : List ℕ) → Some x ≡ Some y → x ≡ y
some_same x y e = cc

-- the same, of what is known of a connection
pub served_seen : {S T : Type 0} {path : List ℕ} {intake : Intake} {answers : S → List ℕ → ℕ → S → Type 0} {input : List ℕ} {old : S} {text : List ℕ} {new : S} {how : ServeEnd} → Serves path intake answers input old text new how
    → (others : T → List ℕ → ℕ → T → Type 0) (see : S → T) (holds : S → Type 0) → AreSeenAs answers others see holds → holds old
    → Serves path intake others input (see old) text (see new) how
served_seen {path = path} {intake = intake} {answers = answers} {input = input} {old = old} {text = text} {new = new} {how = how} s others see holds so h =
    served_as path intake answers others see holds so input old text new how h s
