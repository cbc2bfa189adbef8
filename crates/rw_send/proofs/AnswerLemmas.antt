-- How a run answers.
use Rattle.std.proofs.Common.{◌≡◌, ◌⊎◌, inl, inr, List, Option, None, Some, Result, Ok, Err, IsOk, IfErr, IfOk, IfSome, OnOk, refl, sym, ◌∙◌, subst}
use Rattle.std.specs.Prelude.{IsSome, is_some}
use Rattle.rw_fleet.specs.Fleets.{EndBy}
use Rattle.rw_fleet.specs.declared.running_shard.Fault.{Fault}
use Rattle.rw_fleet.specs.declared.joined.StoppedShard.{StoppedShard}
use Rattle.rw_follow.specs.Meals.{Meal}
use Rattle.rw_follow.specs.declared.signal.StopRequest.{StopRequest}
use Rattle.rw_follow.specs.declared.signal.StopRequest.TheVariants as request
use Rattle.rw_shard_core.specs.declared.outcome.Outcome.{Outcome}
use Rattle.rw_shard_core.specs.declared.outcome.Outcome.TheVariants as outcome
use Rattle.rw_sender.specs.Reports.{IsAbandoned, ListsCut, end_kind, workers_of}
use Rattle.rw_sender.specs.declared.report.Report.{Report}
use Rattle.rw_sender.specs.Shipping.{Shipping, HasEndedAs}
use Rattle.rw_text.specs.declared.tool_fault.ToolFault.TheVariants as tool
use Rattle.rw_send.specs.declared.feed_error.FeedError.{FeedError}
use Rattle.rw_send.specs.declared.feed_error.FeedError.TheVariants as error
use Rattle.rw_send.specs.declared.follow_fault.FollowFault.{FollowFault}
use Rattle.rw_send.specs.declared.follow_fault.FollowFault.TheVariants as fault
use Rattle.rw_send.specs.inner.FeedErrors.{HasDamage}
use Rattle.rw_send.specs.inner.Turns.{IsCut}
use Rattle.rw_send.specs.Logs.{Seen}
use Rattle.rw_send.specs.Segments.{meal_of}
use Rattle.rw_send.specs.Sending.{Answers, EndsFor, HasFedAll, IsCutFor, StopsAtOnce}
use Rattle.rw_send.specs.inner.Sending.{answer_for, answer_to, hard_fault, left_undone}

some_is_not_none : {A B : Type 0} (found : Option A) (x : A) → found ≡ Some x → found ≡ None → B
some_is_not_none found x some none = let no : ⊥ = cc in absurd no

abbrev pub failed : FollowFault → Result (Unit {0}) FollowFault
failed f = Err f

not_ok : {P : Type 0} (f : FollowFault) → IsOk (failed f) → P
not_ok f ok = let no : ⊥ = cc in absurd no

-- all is well only if the log was fed to its end
well_fed : {T : Type 0} (s : Shipping T) (js : List (StoppedShard T)) (shipped : Result (Unit {0}) FeedError) (o : Outcome) → IfErr shipped (HasDamage s) → hard_fault shipped ≡ None → HasEndedAs s js o → IsOk (answer_to o)
    → IsOk shipped
well_fed s js (Ok u) o h soft e ok = refl
well_fed s js (Err (error.Damaged g)) (outcome.Complete end) h soft e ok = some_is_not_none _ g h.0.fault_is e.1.fault_is
well_fed s js (Err (error.Damaged g)) (outcome.Abandoned placed samples) h soft e ok = not_ok (fault.Tool tool.OutOfMemory) ok
well_fed s js (Err (error.Damaged g)) (outcome.Damaged f) h soft e ok = not_ok (fault.Tool (tool.Log f)) ok
well_fed s js (Err error.Failed) o h soft e ok = some_is_not_none _ _ refl soft
well_fed s js (Err error.Unreadable) o h soft e ok = some_is_not_none _ _ refl soft
well_fed s js (Err (error.Missing n)) o h soft e ok = some_is_not_none _ _ refl soft
well_fed s js (Err error.Aborted) o h soft e ok = some_is_not_none _ _ refl soft

pub well_answered : {T : Type 0} (s : Shipping T) (js : List (StoppedShard T)) (shipped : Result (Unit {0}) FeedError) (o : Outcome) (answer : Result (Unit {0}) FollowFault) → IfErr shipped (HasDamage s) → hard_fault shipped ≡ None
    → HasEndedAs s js o → answer ≡ answer_to o → IsOk answer → IsOk shipped
well_answered s js shipped o answer h soft e same ok = well_fed s js shipped o h soft e (subst (λ (a : Result (Unit {0}) FollowFault). IsOk a) same ok)

-- a shipper that is stopped orderly has not failed
pub goes_on : {T : Type 0} (s : Shipping T) (shipped : Result (Unit {0}) FeedError) → IfErr shipped (HasDamage s) → OnOk shipped (s.fault ≡ None) → hard_fault shipped ≡ None → s.fault ≡ None
goes_on s (Ok u) h live soft = live
goes_on s (Err (error.Damaged f)) h live soft = h.1
goes_on s (Err error.Failed) h live soft = some_is_not_none _ _ refl soft
goes_on s (Err error.Unreadable) h live soft = some_is_not_none _ _ refl soft
goes_on s (Err (error.Missing n)) h live soft = some_is_not_none _ _ refl soft
goes_on s (Err error.Aborted) h live soft = some_is_not_none _ _ refl soft

pub abandons_so : (found : Option Fault) (o : Outcome) → IsAbandoned o → IfSome found (λ _. IsAbandoned o)
abandons_so None o h = tt
abandons_so (Some f) o h = h

pub IfOk-always : {T E : Type 0} (r : Result T E) (P : T → Type 0) → ((x : T) → P x) → IfOk r P
IfOk-always (Ok x) P h = h x
IfOk-always (Err e) P h = tt

-- ---- how the shards were ended, and why

-- what the end of reading says of why the shipper is stopped at once
abbrev pub HasCause : (cause : Type 0) → Result (Unit {0}) FeedError → Type 0
HasCause cause shipped = IsSome (hard_fault shipped) → cause

pub ends_for : {T : Type 0} (cause : Type 0) (s : Shipping T) (r : Report T) (shipped : Result (Unit {0}) FeedError)
    → EndBy (end_kind (is_some (hard_fault shipped))) s.fleet (workers_of r) → HasCause (IsAbandoned r.outcome) shipped → HasCause (IsSome s.fault ⊎ cause) shipped → EndsFor cause s r
ends_for cause s r (Ok u) by hard why = inl by
ends_for cause s r (Err (error.Damaged f)) by hard why = inl by
ends_for cause s r (Err error.Failed) by hard why = inr (by, hard refl, why refl)
ends_for cause s r (Err error.Unreadable) by hard why = inr (by, hard refl, why refl)
ends_for cause s r (Err (error.Missing n)) by hard why = inr (by, hard refl, why refl)
ends_for cause s r (Err error.Aborted) by hard why = inr (by, hard refl, why refl)

pub cut_for : {T : Type 0} (cause : Type 0) (s : Shipping T) (r : Report T) (shipped : Result (Unit {0}) FeedError)
    → (hard_fault shipped ≡ None → IsAbandoned r.outcome → ListsCut (workers_of r)) → HasCause (IsSome s.fault ⊎ cause) shipped → IsCutFor cause s r
cut_for cause s r (Ok u) soft why left = inl (soft refl left)
cut_for cause s r (Err (error.Damaged f)) soft why left = inl (soft refl left)
cut_for cause s r (Err error.Failed) soft why left = inr (why refl)
cut_for cause s r (Err error.Unreadable) soft why left = inr (why refl)
cut_for cause s r (Err (error.Missing n)) soft why left = inr (why refl)
cut_for cause s r (Err error.Aborted) soft why left = inr (why refl)

stops_for : {T : Type 0} (s : Shipping T) (log : Seen) (said : StopRequest) (o : Outcome) (ended : Result (Unit {0}) FeedError) → IfErr ended (IsCut s log said)
    → HasCause (IsSome s.fault ⊎ StopsAtOnce log said (meal_of s.log.pieces) (answer_for (hard_fault ended) o)) ended
stops_for s log said o (Ok u) cut hard = let no : ⊥ = cc in absurd no
stops_for s log said o (Err (error.Damaged f)) cut hard = let no : ⊥ = cc in absurd no
stops_for s log said o (Err error.Failed) (inl f) hard = inl f
stops_for s log said o (Err error.Failed) (inr more) hard = inr more
stops_for s log said o (Err error.Unreadable) cut hard = inr cut
stops_for s log said o (Err (error.Missing n)) cut hard = inr cut
stops_for s log said o (Err error.Aborted) cut hard = inr cut

-- whatever was said when the stop signal was looked at once more
said_stops : (log : Seen) (old new : StopRequest) (fed : Meal) (answer : Result (Unit {0}) FollowFault) → ((answer ≡ left_undone → ⊥) → new ≡ old) → StopsAtOnce log old fed answer → StopsAtOnce log new fed answer
said_stops log old new fed (Ok u) same h = h
said_stops log old new fed (Err (fault.Tool (tool.Log f))) same h = h
said_stops log old new fed (Err (fault.Tool tool.OutOfMemory)) same h = h
said_stops log old new fed (Err (fault.Tool tool.Device)) same h = h
said_stops log old new fed (Err (fault.Tool (tool.Line n))) same h = h
said_stops log old new fed (Err (fault.Tool tool.SegmentFull)) same h = h
said_stops log old new fed (Err (fault.Missing n)) same h = h
said_stops log old new fed (Err fault.Stopped) same h = same (λ bad. cc) ∙ h

-- what an answer is once it was looked at
abbrev pub IsSigned : (old new : StopRequest) (answer result : Result (Unit {0}) FollowFault) → Type 0
IsSigned old new answer result = (result ≡ answer) ⊎ ((answer ≡ left_undone) × (result ≡ failed fault.Stopped) × (new ≡ request.Abort))

signed_stops : (log : Seen) (old new : StopRequest) (fed : Meal) (answer result : Result (Unit {0}) FollowFault) → IsSigned old new answer result → ((answer ≡ left_undone → ⊥) → new ≡ old)
    → StopsAtOnce log old fed answer → StopsAtOnce log new fed result
signed_stops log old new fed answer result (inl e) same h = subst (λ (r : Result (Unit {0}) FollowFault). StopsAtOnce log new fed r) (sym e) (said_stops log old new fed answer same h)
signed_stops log old new fed answer result (inr (e, stopped, hard)) same h = subst (λ (r : Result (Unit {0}) FollowFault). StopsAtOnce log new fed r) (sym stopped) hard

with_stops : {F A B : Type 0} → (A → B) → F ⊎ A → F ⊎ B
with_stops go (inl f) = inl f
with_stops go (inr a) = inr (go a)

-- why the work was stopped at once
pub why_stopped : {T : Type 0} (s : Shipping T) (log : Seen) (old new : StopRequest) (o : Outcome) (ended : Result (Unit {0}) FeedError) (answer result : Result (Unit {0}) FollowFault) → answer ≡ answer_for (hard_fault ended) o
    → IsSigned old new answer result → ((answer ≡ left_undone → ⊥) → new ≡ old) → IfErr ended (IsCut s log old) → HasCause (IsSome s.fault ⊎ StopsAtOnce log new (meal_of s.log.pieces) result) ended
why_stopped s log old new o ended answer result so which same cut = λ hard.
    with_stops (signed_stops log old new (meal_of s.log.pieces) answer result which same)
    (subst (λ (r : Result (Unit {0}) FollowFault). IsSome s.fault ⊎ StopsAtOnce log old (meal_of s.log.pieces) r) (sym so) (stops_for s log old o ended cut hard))

-- ---- how it is answered

answers_for : {T : Type 0} (s : Shipping T) (log : Seen) (said : StopRequest) (fed : Meal) (o : Outcome) (ended : Result (Unit {0}) FeedError) → HasCause (IsAbandoned o) ended → IfErr ended (IsCut s log said) → OnOk ended (HasFedAll log said fed)
    → (IsOk (answer_for (hard_fault ended) o) → IsOk ended) → Answers log said fed o (answer_for (hard_fault ended) o)
answers_for s log said fed (outcome.Complete end) (Ok u) hard cut whole well = (tt, whole)
answers_for s log said fed (outcome.Abandoned placed samples) (Ok u) hard cut whole well = tt
answers_for s log said fed (outcome.Damaged f) (Ok u) hard cut whole well = refl
answers_for s log said fed (outcome.Complete end) (Err (error.Damaged g)) hard cut whole well = (let ok = well refl in let no : ⊥ = cc in absurd no)
answers_for s log said fed (outcome.Abandoned placed samples) (Err (error.Damaged g)) hard cut whole well = tt
answers_for s log said fed (outcome.Damaged f) (Err (error.Damaged g)) hard cut whole well = refl
answers_for s log said fed o (Err error.Failed) hard cut whole well = hard refl
answers_for s log said fed o (Err error.Unreadable) hard cut whole well = (hard refl, cut)
answers_for s log said fed o (Err (error.Missing n)) hard cut whole well = (hard refl, cut)
answers_for s log said fed o (Err error.Aborted) hard cut whole well = (hard refl, cut)

said_answers : (log : Seen) (old new : StopRequest) (fed : Meal) (o : Outcome) (answer : Result (Unit {0}) FollowFault) → ((answer ≡ left_undone → ⊥) → new ≡ old) → Answers log old fed o answer → Answers log new fed o answer
said_answers log old new fed o (Ok u) same h = (h.0, (same (λ bad. cc) ∙ h.1.0, h.1.1))
said_answers log old new fed o (Err (fault.Tool (tool.Log f))) same h = h
said_answers log old new fed o (Err (fault.Tool tool.OutOfMemory)) same h = h
said_answers log old new fed o (Err (fault.Tool tool.Device)) same h = h
said_answers log old new fed o (Err (fault.Tool (tool.Line n))) same h = h
said_answers log old new fed o (Err (fault.Tool tool.SegmentFull)) same h = h
said_answers log old new fed o (Err (fault.Missing n)) same h = h
said_answers log old new fed o (Err fault.Stopped) same h = (h.0, same (λ bad. cc) ∙ h.1)

-- if the stop signal is looked at once more
signed_answers : (log : Seen) (old new : StopRequest) (fed : Meal) (o : Outcome) (answer result : Result (Unit {0}) FollowFault) → IsSigned old new answer result → ((answer ≡ left_undone → ⊥) → new ≡ old)
    → Answers log old fed o answer → Answers log new fed o result
signed_answers log old new fed o answer result (inl e) same h = subst (λ (r : Result (Unit {0}) FollowFault). Answers log new fed o r) (sym e) (said_answers log old new fed o answer same h)
signed_answers log old new fed o answer result (inr (e, stopped, hard)) same h =
    let left = subst (λ (r : Result (Unit {0}) FollowFault). Answers log old fed o r) e h in
    subst (λ (r : Result (Unit {0}) FollowFault). Answers log new fed o r) (sym stopped) (left, hard)

pub answered : {T : Type 0} (s : Shipping T) (log : Seen) (old new : StopRequest) (fed : Meal) (o : Outcome) (ended : Result (Unit {0}) FeedError) (answer result : Result (Unit {0}) FollowFault) → answer ≡ answer_for (hard_fault ended) o
    → HasCause (IsAbandoned o) ended → IfErr ended (IsCut s log old) → OnOk ended (HasFedAll log old fed) → (IsOk answer → IsOk ended) → IsSigned old new answer result → ((answer ≡ left_undone → ⊥) → new ≡ old)
    → Answers log new fed o result
answered s log old new fed o ended answer result so hard cut whole well which same =
    signed_answers log old new fed o answer result which same
    (subst (λ (r : Result (Unit {0}) FollowFault). Answers log old fed o r) (sym so)
    (answers_for s log old fed o ended hard cut whole (λ ok. well (subst (λ (r : Result (Unit {0}) FollowFault). IsOk r) (sym so) ok))))

pub fed_all : (log : Seen) (said : StopRequest) (fed : Meal) (ended : Result (Unit {0}) FeedError) → OnOk ended (log.had_all fed) → OnOk ended (said ≡ request.Finish) → OnOk ended (HasFedAll log said fed)
fed_all log said fed (Ok u) all signed = (signed, all)
fed_all log said fed (Err h) all signed = tt

pub signed_ok : (old new : StopRequest) (answer result : Result (Unit {0}) FollowFault) → IsSigned old new answer result → IsOk result → IsOk answer
signed_ok old new answer result (inl e) ok = subst (λ (r : Result (Unit {0}) FollowFault). IsOk r) e ok
signed_ok old new answer result (inr (e, stopped, hard)) ok = not_ok fault.Stopped (subst (λ (r : Result (Unit {0}) FollowFault). IsOk r) stopped ok)

pub at_ok : {T E P : Type 0} (r : Result T E) → OnOk r P → IsOk r → P
at_ok (Ok x) h ok = h
at_ok (Err e) h ok = let no : ⊥ = cc in absurd no

-- at some start of the log
pub on_start : {A : Type 0} (P : A → Type 0) (Q : A → FeedError → Type 0) (ended : Result (Unit {0}) FeedError) (start : A) → P start → IfErr ended (λ e. (a : A) → P a → Q a e) → IfErr ended (Q start)
on_start P Q (Ok u) start h all = tt
on_start P Q (Err e) start h all = all start h

pub ok_start : {A : Type 0} (P Q : A → Type 0) (ended : Result (Unit {0}) FeedError) (start : A) → P start → OnOk ended ((a : A) → P a → Q a) → OnOk ended (Q start)
ok_start P Q (Ok u) start h all = all start h
ok_start P Q (Err e) start h all = tt
