-- Bytes that were read, where it is recorded what was read.
use Rattle.std.proofs.Common.{◌≡◌, ℕ, List, [], ◌++◌, false, true, Option, Some, Ok, inl, inr, refl, sym, ◌∙◌, ap, subst, append_assoc}
use Rattle.std.proofs.lemmas.List.{append-nil}
use Rattle.httparse.specs.Grammar.{print_request}
use Rattle.rw_endpoint.specs.Serving.{Replies, Ends, Serves, ends, HasWritten}
use Rattle.rw_endpoint.specs.inner.Reading.{ReadsMore}
use Rattle.rw_endpoint.specs.inner.Steps.{HasServed}
use Rattle.rw_endpoint.specs.declared.serve_end.ServeEnd.{ServeEnd}
use Rattle.rw_endpoint.specs.declared.serve_end.ServeEnd.TheVariants.{OutOfMemory}
use Rattle.rw_endpoint.specs.declared.intake.Intake.{Intake}
use Rattle.rw_endpoint.proofs.ServingLemmas.{IsServedUpTo, served_none, served_more}

-- none
pub reads_none : (a : Option (List ℕ)) (P : List ℕ → Type 0) → P [] → ReadsMore a a P
reads_none a P h past e = ([], e ∙ ap Some (sym (append-nil past)), h)

-- the same ones
pub reads_so : (a b : Option (List ℕ)) (P Q : List ℕ → Type 0) → ReadsMore a b P → ((m : List ℕ) → P m → Q m) → ReadsMore a b Q
reads_so a b P Q one so past e =
    let first = one past e in
    (first.0, first.1, so first.0 first.2)

-- some, and then some more
pub reads_again : (a b c : Option (List ℕ)) (P Q R : List ℕ → Type 0) → ReadsMore a b P → ReadsMore b c Q → ((m k : List ℕ) → P m → Q k → R (m ++ k)) → ReadsMore a c R
reads_again a b c P Q R one two join past e =
    let first = one past e in
    let second = two (past ++ first.0) first.1 in
    (first.0 ++ second.0, second.1 ∙ ap Some (append_assoc past first.0 second.0), join first.0 second.0 first.2 second.2)

-- what waits grows by both
pub waits_more : (p q r m k : List ℕ) → q ≡ p ++ m → r ≡ q ++ k → r ≡ p ++ (m ++ k)
waits_more p q r m k e f = f ∙ ap (λ (t : List ℕ). t ++ k) e ∙ append_assoc p m k

-- a body grows by both, if nothing waits
pub body_more : (p q r w m k : List ℕ) → w ≡ [] → q ++ w ≡ p ++ m → r ≡ q ++ k → r ++ w ≡ p ++ (m ++ k)
body_more p q r w m k none e f =
    let alone : q ≡ p ++ m = sym (append-nil q) ∙ ap (λ (t : List ℕ). q ++ t) (sym none) ∙ e in
    ap (λ (t : List ℕ). r ++ t) none ∙ append-nil r ∙ waits_more p q r m k alone f

-- A request that keeps the connection has its reply whatever follows it.
pub replies_alone : {S : Type 0} (path : List ℕ) (intake : Intake) (answers : S → List ℕ → ℕ → S → Type 0) (input : List ℕ) (old : S) (text rest : List ℕ) (new : S) →
    Replies path intake answers input old text rest false new →
    (bytes : List ℕ) × (input ≡ bytes ++ rest) × ((more : List ℕ) → Replies path intake answers (bytes ++ more) old text more false new)
replies_alone path intake answers input old text rest new (inl b) = absurd (let e : false ≡ true = b.closing in cc)
replies_alone path intake answers input old text rest new (inr (inl b)) = absurd (let e : false ≡ true = b.closing in cc)
replies_alone path intake answers input old text rest new (inr (inr b)) = (
  print_request b.head ++ b.body,
  b.begins.0.1 ∙ sym (append_assoc (print_request b.head) b.body rest),
  λ more. inr (inr (record {
    head = b.head;
    body = b.body;
    coding = b.coding;
    status = b.status;
    begins = ((b.begins.0.0, append_assoc (print_request b.head) b.body more), b.begins.1, b.begins.2);
    finding = b.finding;
    status_given = b.status_given;
    written = b.written;
  })),
)

-- Of these bytes that were read, some are left. The others are requests that have their replies,
-- whatever follows them.
pub record IsServedSoFar {S : Type 0} (path : List ℕ) (intake : Intake) (answers : S → List ℕ → ℕ → S → Type 0) (old : S) (before : List ℕ) (contents : Option (List ℕ)) (left : List ℕ) (new : S) (read : List ℕ) : Type 0 where
  pub text : List ℕ
  pub used : List ℕ
  pub written : contents ≡ Some (before ++ text)
  pub read_is : read ≡ used ++ left
  pub served : (rest : List ℕ) → IsServedUpTo path intake answers (used ++ rest) old text rest new

-- nothing was read
pub so_far_none : {S : Type 0} (path : List ℕ) (intake : Intake) (answers : S → List ℕ → ℕ → S → Type 0) (old : S) (before : List ℕ) (contents : Option (List ℕ)) (left : List ℕ) →
    contents ≡ Some before → left ≡ [] → IsServedSoFar path intake answers old before contents left old []
so_far_none path intake answers old before contents left w none = record {
  text = [];
  used = [];
  written = w ∙ ap Some (sym (append-nil before));
  read_is = sym none;
  served = λ rest. served_none path intake answers rest old;
}

-- one more request has its reply
pub so_far_more : {S : Type 0} (path : List ℕ) (intake : Intake) (answers : S → List ℕ → ℕ → S → Type 0) (old : S) (before : List ℕ) (contents then : Option (List ℕ)) (left after : List ℕ) (middle new : S) (m k text : List ℕ) (u : Unit) →
    (h : IsServedSoFar path intake answers old before contents left middle m) → then ≡ Some ((before ++ h.text) ++ text) →
    HasServed path intake answers (left ++ k) middle text (Some after) new (Ok u) →
    IsServedSoFar path intake answers old before then after new (m ++ k)
so_far_more {S} path intake answers old before contents then left after middle new m k text u h w s =
    let one = replies_alone path intake answers (left ++ k) middle text s.0 new s.2 in
    let same : after ≡ s.0 = (let e : Some after ≡ Some s.0 = s.1 in cc) in
    record {
      text = h.text ++ text;
      used = h.used ++ one.0;
      written = w ∙ ap Some (append_assoc before h.text text);
      read_is = ap (λ (t : List ℕ). t ++ k) h.read_is ∙ append_assoc h.used left k ∙ ap (λ (t : List ℕ). h.used ++ t) one.1
          ∙ ap (λ (t : List ℕ). h.used ++ (one.0 ++ t)) (sym same) ∙ sym (append_assoc h.used one.0 after);
      served = λ rest.
          subst (λ (t : List ℕ). IsServedUpTo path intake answers t old (h.text ++ text) rest new) (sym (append_assoc h.used one.0 rest))
          (served_more path intake answers (h.used ++ (one.0 ++ rest)) old h.text (one.0 ++ rest) middle text rest new (h.served (one.0 ++ rest)) (one.2 rest));
    }

-- the connection ends
pub so_far_ends : {S : Type 0} (path : List ℕ) (intake : Intake) (answers : S → List ℕ → ℕ → S → Type 0) (old : S) (before : List ℕ) (contents then : Option (List ℕ)) (left : List ℕ) (middle new : S) (m k text : List ℕ) (how : ServeEnd) →
    (h : IsServedSoFar path intake answers old before contents left middle m) → then ≡ Some ((before ++ h.text) ++ text) →
    Ends path intake answers (left ++ k) middle text new how →
    HasWritten path intake answers (m ++ k) old before then new how
so_far_ends {S} path intake answers old before contents then left middle new m k text how h w s =
    let same : h.used ++ (left ++ k) ≡ m ++ k = sym (ap (λ (t : List ℕ). t ++ k) h.read_is ∙ append_assoc h.used left k) in (
      h.text ++ text,
      w ∙ ap Some (append_assoc before h.text text),
      subst (λ (t : List ℕ). Serves path intake answers t old (h.text ++ text) new how) same
          ((h.served (left ++ k)).serves text how new (ends s)),
    )

-- no more requests are looked at
pub so_far_stops : {S : Type 0} (path : List ℕ) (intake : Intake) (answers : S → List ℕ → ℕ → S → Type 0) (old : S) (before : List ℕ) (contents : Option (List ℕ)) (left : List ℕ) (new : S) (m : List ℕ) →
    IsServedSoFar path intake answers old before contents left new m →
    HasWritten path intake answers m old before contents new OutOfMemory
so_far_stops {S} path intake answers old before contents left new m h = (
  h.text,
  h.written,
  subst (λ (t : List ℕ). Serves path intake answers m old t new OutOfMemory) (append-nil h.text)
      (subst (λ (t : List ℕ). Serves path intake answers t old (h.text ++ []) new OutOfMemory) (sym h.read_is)
      ((h.served left).serves [] OutOfMemory new (ends (refl, refl)))),
)
