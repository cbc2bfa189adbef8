-- Why the reading of a log fails.
use Rattle.std.proofs.Common.{◌≡◌, inl, ℕ, ◌≤◌, Option, None, Some, Result, Ok, Err, IfErr, OnOk, refl, sym, ap, ◌∙◌, subst}
use Rattle.std.specs.Prelude.{IsSome, is_err, true}
use Rattle.std.specs.Result.{IsErrAnd}
use Rattle.rw_wal_format.specs.declared.tail_fault.TailFault.{TailFault}
use Rattle.rw_follow.specs.declared.follower.Turn.{Turn}
use Rattle.rw_fleet.specs.declared.running_shard.Fault.{Fault}
use Rattle.rw_fleet.specs.declared.running_shard.Fault.TheVariants as queue
use Rattle.rw_sender.specs.Placement.{IsShardCount}
use Rattle.rw_sender.specs.Shipping.{FailsBy, Feeds, Shipping}
use Rattle.rw_sender.specs.declared.shipper.FeedFault.{FeedFault}
use Rattle.rw_sender.specs.declared.shipper.FeedFault.TheVariants as feed
use Rattle.rw_send.specs.FeedErrors.{feed_error_of}
use Rattle.rw_send.specs.declared.feed_error.FeedError.{FeedError}
use Rattle.rw_send.specs.declared.feed_error.FeedError.TheVariants as error
use Rattle.rw_send.specs.inner.Turns.{HaltsAt}

halt_in : {X : Type 0} → Result X FeedError → FeedError
halt_in (Ok x) = error.Failed
halt_in (Err h) = h

abbrev pub halts : {X : Type 0} → FeedError → Result X FeedError
halts h = Err h

halt_of : {X : Type 0} (h other : FeedError) → halts {X = X} h ≡ halts other → h ≡ other
unfolding halt_in
halt_of h other e = ap halt_in e

-- the error of a call is that which its caller returns
pub err_is : {X : Type 0} (r : Result X FeedError) (h : FeedError) → IsErrAnd r (λ y. y ≡ h) → halts h ≡ r
err_is (Ok x) h is = absurd is
err_is (Err y) h is = ap halts (sym is)

pub err_so : {X : Type 0} (P : FeedError → Type 0) (r : Result X FeedError) (h : FeedError) → IsErrAnd r (λ y. y ≡ h) → P h → IfErr r P
err_so P (Ok x) h is p = absurd is
err_so P (Err y) h is p = subst P (sym is) p

pub on_err : {X : Type 0} (P : Type 0) (r : Result X FeedError) (h : FeedError) → IsErrAnd r (λ y. y ≡ h) → OnOk r P
on_err P (Ok x) h is = absurd is
on_err P (Err y) h is = tt

-- if that has failed
pub failed_is : {X Y : Type 0} (r : Result X FeedError) (h : FeedError) → IsErrAnd r (λ y. y ≡ h) → halts {X = Y} h ≡ halts error.Failed → halts error.Failed ≡ r
failed_is {X} {Y} r h is e = ap (halts {X = X}) (sym (halt_of h error.Failed e)) ∙ err_is r h is

-- the shipper has failed, or the log is damaged
pub feed_halts : {T : Type 0} (t : Turn) (old new : Shipping T) (e : FeedFault) → Feeds new (Err e) → HaltsAt t old new (feed_error_of e)
feed_halts t old new feed.OutOfMemory h = inl (subst IsSome (sym h) refl)
feed_halts t old new (feed.Damaged f) h = h
feed_halts t old new feed.Gone h = inl (subst IsSome (sym h) refl)

not_damaged : (found : Option Fault) (f : TailFault) → FailsBy found (feed.Damaged f) → ⊥
not_damaged None f h = h
not_damaged (Some queue.OutOfMemory) f h = cc
not_damaged (Some queue.Gone) f h = cc

pub fails_so : (found : Option Fault) (e : FeedFault) → FailsBy found e → IsSome found
fails_so None e h = absurd h
fails_so (Some f) e h = refl

-- the same of a flush
pub flush_halts : {T : Type 0} (t : Turn) (old new : Shipping T) (e : FeedFault) → FailsBy new.fault e → HaltsAt t old new (feed_error_of e)
flush_halts t old new feed.OutOfMemory h = inl (fails_so new.fault feed.OutOfMemory h)
flush_halts t old new (feed.Damaged f) h = absurd (not_damaged new.fault f h)
flush_halts t old new feed.Gone h = inl (fails_so new.fault feed.Gone h)

pub reshard_failed : (r : Result (Unit {0}) FeedFault) (found : Option Fault) → IfErr r (FailsBy found) → is_err r ≡ true → IsSome found
reshard_failed (Ok u) found h e = let no : ⊥ = cc in absurd no
reshard_failed (Err f) found h e = fails_so found f h

pub count_so : {n k : ℕ} → n ≡ k → 1 ≤ k → k ≤ 1000 → IsShardCount n
count_so same some few = subst IsShardCount (sym same) (some, few)

pub live_no_more : {A P : Type 0} (found : Option A) → IsSome found → found ≡ None → P
live_no_more found some none = let no : ⊥ = cc in absurd no
