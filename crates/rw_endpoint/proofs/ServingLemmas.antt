-- One request after another.
use Rattle.std.proofs.Common.{◌≡◌, ℕ, List, [], ◌++◌, false, Option, Some, sym, ap, ◌∙◌, subst, append_assoc}
use Rattle.std.proofs.lemmas.List.{append-nil}
use Rattle.rw_endpoint.specs.Serving.{Replies, RepliesTo, further, Ends, Serves, stays, RepliesUpTo, nothing_yet, one_more, AsksForBody, IsStoppedAtBody}
use Rattle.rw_endpoint.specs.declared.serve_end.ServeEnd.{ServeEnd}
use Rattle.rw_endpoint.specs.declared.serve_end.ServeEnd.TheVariants.{OutOfMemory}
use Rattle.rw_endpoint.specs.declared.intake.Intake.{Intake}

-- The text replies to the requests that the input has before what is left of it; so what is served
-- from there is served from the start after that text.
pub record IsServedUpTo {S : Type 0} (path : List ℕ) (intake : Intake) (answers : S → List ℕ → ℕ → S → Type 0) (input : List ℕ) (old : S) (text left : List ℕ) (new : S) : Type 0 where
  pub serves : (more : List ℕ) (how : ServeEnd) (last : S) → Serves path intake answers left new more last how →
      Serves path intake answers input old (text ++ more) last how
  pub replies : (more : List ℕ) → RepliesTo path intake answers left new more → RepliesTo path intake answers input old (text ++ more)
  pub replied : RepliesUpTo path intake answers input old text left new

-- before the first request
pub served_none : {S : Type 0} (path : List ℕ) (intake : Intake) (answers : S → List ℕ → ℕ → S → Type 0) (input : List ℕ) (old : S) →
    IsServedUpTo path intake answers input old [] input old
served_none path intake answers input old = record { serves = λ more how last s. s; replies = λ more s. s; replied = nothing_yet }

-- after one more
pub served_more : {S : Type 0} (path : List ℕ) (intake : Intake) (answers : S → List ℕ → ℕ → S → Type 0) (input : List ℕ) (old : S) (text left : List ℕ) (middle : S) (first rest : List ℕ) (new : S) →
    IsServedUpTo path intake answers input old text left middle → Replies path intake answers left middle first rest false new →
    IsServedUpTo path intake answers input old (text ++ first) rest new
served_more path intake answers input old text left middle first rest new so_far one = record {
  serves = λ more how last s.
      subst (λ (t : List ℕ). Serves path intake answers input old t last how) (sym (append_assoc text first more))
      (so_far.serves (first ++ more) how last (stays one s));
  replies = λ more s.
      subst (λ (t : List ℕ). RepliesTo path intake answers input old t) (sym (append_assoc text first more))
      (so_far.replies (first ++ more) (further one s));
  replied = one_more so_far.replied one;
}

-- the next one has no reply, since memory ran out
pub stopped_at_body : {S : Type 0} (path : List ℕ) (intake : Intake) (answers : S → List ℕ → ℕ → S → Type 0) (input : List ℕ) (old : S) (before text left more : List ℕ) (contents : Option (List ℕ)) (middle new : S) →
    RepliesUpTo path intake answers input old text left middle → Ends path intake answers left middle more new OutOfMemory → AsksForBody path intake left →
    contents ≡ Some ((before ++ text) ++ more) → IsStoppedAtBody path intake answers input old before contents new
stopped_at_body {S} path intake answers input old before text left more contents middle new replied silent asks written = record {
  text = text;
  left = left;
  written = written ∙ ap (λ (t : List ℕ). Some ((before ++ text) ++ t)) silent.0 ∙ ap Some (append-nil (before ++ text));
  replied = subst (λ (s : S). RepliesUpTo path intake answers input old text left s) (sym silent.1) replied;
  asks = asks;
}
