-- A receiver whose head is kept in a journal is one of those to which requests come over the wire.
use Rattle.std.proofs.Common.{◌≡◌, ◌≢◌, ◌⊎◌, inl, inr, ℕ, zero, suc, ◌≤◌, nat_lt, Bool, true, false, List, length, map, Option, None, Some, Result, Ok, Err, refl, sym, ap, ◌∙◌, subst, arith}
use Rattle.std.specs.List.{AllByRecursion}
use Rattle.std.proofs.lemmas.Bool.{cond-true, cond-false, le-ltb, lt-ltb}
use Rattle.std.proofs.lemmas.Bool.Decides.{eqb_tells}
use Rattle.std.proofs.lemmas.Option.{slice_get_within}
use Rattle.rw_types.specs.Beginnings.{Begins}
use Rattle.rw_types.proofs.shared.BeginningLemmas.{begins_itself, begins_twice}
use Rattle.rw_types.specs.Labels.{Labels}
use Rattle.rw_types.specs.declared.entry.Entry.{Entry}
use Rattle.rw_wal_format.specs.Pieces.{page_size}
use Rattle.rw_relabel.specs.declared.choice.Choice.{Choice}
use Rattle.rw_write_request.specs.Message.{WriteRequest}
use Rattle.rw_write_request.specs.Read.{read}
use Rattle.rw_write_request.specs.declared.fault.WireFault.{WireFault}
use Rattle.rw_retry.specs.Judgements.{judgement_of}
use Rattle.rw_retry.specs.declared.judgement.Judgement.{Judgement}
use Rattle.rw_retry.specs.declared.judgement.Judgement.TheVariants.{Done, Again, Refused}
use Rattle.rw_plain_queue.specs.Items.{Placed}
use Rattle.rw_batch.specs.Grouping.{message}
use Rattle.rw_shard_core.specs.Shard.{IsReadAgain, body_of, labelled}
use Rattle.rw_head.specs.Head.{State, answer, answer_to}
use Rattle.rw_head.specs.Store.{Store, list_of}
use Rattle.rw_head.specs.Verdicts.{LabelLimits, taken_all}
use Rattle.rw_head.proofs.shared.StoreLemmas.{list_of-empty}
use Rattle.rw_machine.specs.Worlds.{Setup}
use Rattle.rw_machine.specs.declared.event.How.{How}
use Rattle.rw_machine.specs.declared.event.How.TheVariants.{Plain, Busy, OutOfMemory}
use Rattle.rw_kept_log.specs.Journal.{Segments}
use Rattle.rw_kept_log.specs.Logs.{entries_of, IsWholeText}
use Rattle.rw_kept_log.specs.declared.journal.JournalError.{JournalError}
use Rattle.rw_kept_log.specs.Additions.{samples_of_labels}
use Rattle.rw_kept_head.specs.Answered.{KeepsHead, IsKeptAnswer}
use Rattle.rw_kept_head.specs.Kept.{Kept, SaysWhat, LiesBetween, IsLeft, HasNoChance, ended_with}
use Rattle.rw_restarts.specs.Arrivals.{Receives}
use Rattle.rw_restarts.specs.Receivers.{IsRestarted, state_of}
use Rattle.rw_restarts.specs.KeptReceivers.{acknowledged_after}
use Rattle.rw_restarts.specs.WireReceivers.{RunOfWorkers, WireEvent, Comes, Reopens, ReopensDuring, receiver_state, HasShortBody, HappensOnWire, HoldsLogByWire, RefusesNone}
use Rattle.rw_restarts.specs.KeptWireReceivers.{KeptState, wire_state, ReadsCarried, HasLongBody, IsSound, IsOpenedFrom, IsAskedFor, IsAnsweredKept, IsAskedMore, IsCrash, IsIdleCrash, IsCrashAtRefused, HasReopened, HappensToKept, IsKeptReceiver, IsWireReceiverKept, HoldsLogKept, RefusesNoneKept}
use Rattle.rw_restarts.proofs.CarriedLemmas.{RequestLaws, carries}
use Rattle.rw_restarts.proofs.AnswerLemmas.{answers-taken, answers-kept}
use Rattle.rw_restarts.proofs.KeptReceiverLemmas.{opened-again}
use Rattle.rw_restarts.proofs.RunLemmas.{get_some}

-- ---- an answer of a head
answer-limits : (h : State) (found : Result WriteRequest WireFault) → (answer_to h found).head.limits ≡ h.limits
answer-limits h found = by_busy (nat_lt 0 h.busy) refl
  where
    by_busy : (b : Bool) → nat_lt 0 h.busy ≡ b → (answer_to h found).head.limits ≡ h.limits
    by_busy true e = rw e refl
    by_busy false e = rw e refl

answer-kept : (h : State) (found : Result WriteRequest WireFault) → (answer_to h found).status ≢ 204 → (answer_to h found).head.store ≡ h.store
answer-kept h (Ok m) other = answers-kept h m other
answer-kept h (Err fault) other = by_busy (nat_lt 0 h.busy) refl
  where
    by_busy : (b : Bool) → nat_lt 0 h.busy ≡ b → (answer_to h (Err fault)).head.store ≡ h.store
    by_busy true e = rw e refl
    by_busy false e = rw e refl

-- ---- a log and a store
lies-still : (store : Store) (left : Segments) → SaysWhat left store → LiesBetween store store left
lies-still store left says l = (
  subst (Begins (list_of store l)) (says l) (begins_itself (list_of store l)),
  subst (λ ys. Begins ys (list_of store l)) (says l) (begins_itself (list_of store l)),
)

restarted : (old most again had now : Store) (left : Segments) → now ≡ had → ((l : Labels) → Begins (list_of had l) (list_of old l)) → LiesBetween old most left → SaysWhat left again → IsRestarted (state_of old had) most (state_of again now)
restarted old most again had now left same begins between says =
    subst (λ (s : Store). IsRestarted (state_of old had) most (state_of again s)) (sym same) (opened-again old most again had left begins between says)

-- what was acknowledged begins the store after an answer, if it did so before
acknowledged-next : (j : Judgement) (had now old new : Store) → now ≡ acknowledged_after j had new → (l : Labels) → Begins (list_of had l) (list_of old l) → Begins (list_of old l) (list_of new l) → Begins (list_of now l) (list_of new l)
acknowledged-next Done had now old new is l begins grows = subst (λ (s : Store). Begins (list_of s l) (list_of new l)) (sym is) (begins_itself (list_of new l))
acknowledged-next Again had now old new is l begins grows = subst (λ (s : Store). Begins (list_of s l) (list_of new l)) (sym is) (begins_twice (list_of had l) (list_of old l) (list_of new l) begins grows)
acknowledged-next Refused had now old new is l begins grows = subst (λ (s : Store). Begins (list_of s l) (list_of new l)) (sym is) (begins_twice (list_of had l) (list_of old l) (list_of new l) begins grows)

module _ {J : Type 0} (seen : J → Segments) (may_leave : J → Segments → Type 0) (moment : J → ℕ) (left_since : J → ℕ → Segments → Type 0) (tears : List ℕ → List ℕ → Type 0) where
  abbrev Keeps : Kept J → Type 0
  Keeps = KeepsHead seen may_leave moment left_since tears

  abbrev Answered : Kept J → List ℕ → ℕ → Kept J → Type 0
  Answered = IsKeptAnswer seen may_leave moment left_since tears

  -- ---- a start
  record Started (limits : LabelLimits) (left : Segments) (new : Kept J) : Type 0 where
    says : SaysWhat left new.head.store
    keeps : Keeps new
    limits_are : new.head.limits ≡ limits

  started : (limits : LabelLimits) (n : ℕ) (left : Segments) (new : Kept J) → IsOpenedFrom seen may_leave moment left_since tears limits n left new → Started limits left new
  started limits zero left new (j, disk, opened) = record {
    says = subst (λ (s : Segments). SaysWhat s new.head.store) disk opened.says;
    keeps = opened.kept;
    limits_are = opened.limits_are;
  }
  started limits (suc n) left new (j, ended, again, disk, leaves, is, opened) =
      let later = started limits n again new opened in record {
        says = λ l. later.says l ∙ ap (λ (es : List Entry). samples_of_labels es l) (leaves.each again is) ∙ ap (λ (s : Segments). samples_of_labels (entries_of page_size s) l) disk;
        keeps = later.keeps;
        limits_are = later.limits_are;
      }

  -- ---- an answer
  module _ (old : Kept J) (body : List ℕ) (status : ℕ) (new : Kept J) (a : Answered old body status new) where
    limits-stay : new.head.limits ≡ old.head.limits
    limits-stay = elim (eqb_tells status 503) [
      | inl is ↦ ap (λ (h : State). h.limits) (a.unavailable is.1)
      | inr other ↦ ap (λ (h : State). h.limits) (a.head other.1) ∙ answer-limits old.head (read body)
    ]

    grows : (l : Labels) → Begins (list_of old.head.store l) (list_of new.head.store l)
    grows l = elim (eqb_tells status 503) [
      | inl is ↦ subst (λ (h : State). Begins (list_of old.head.store l) (list_of h.store l)) (sym (a.unavailable is.1)) (begins_itself (list_of old.head.store l))
      | inr other ↦ subst (λ (h : State). Begins (list_of old.head.store l) (list_of h.store l)) (sym (a.head other.1)) (a.begins l)
    ]

  asked-more : (n : ℕ) (old new : Kept J) (error : JournalError) → old.fault ≡ Some error → IsAskedMore seen may_leave moment left_since tears n old new → new.head.store ≡ old.head.store
  asked-more zero old new error fault same = ap (λ (k : Kept J). k.head.store) same
  asked-more (suc n) old new error fault (body, status, next, a, later) =
      let closed = a.closed error fault in
      asked-more n next new error (closed.2 ∙ fault) later ∙ a.refused closed.0

  module _ (laws : RequestLaws) (c : Setup) (sound : IsSound c) (request : List ℕ) (old new : Kept J) (status : ℕ) where
    asked_plain : HasShortBody c request → IsAskedFor seen may_leave moment left_since tears c request old status new → status ≢ 503 → Receives c Plain request old.head status new.head
    asked_plain short asked up batch again is =
        cond-false (nat_lt c.max_body (length (body_of batch))) (record { status = 413; head = old.head }) (answer_to old.head (Ok (message (map labelled batch)))) (le-ltb c.max_body (length (body_of batch)) (short batch again is))
        ∙ ap (answer_to old.head) (sym (ap read (carries laws c sound request asked.body asked.reads batch is (short batch again is)) ∙ again))
        ∙ let status_is = sym (asked.answered.status_is up) in let head_is = sym (asked.answered.head up) in
        λ i. record { status = status_is i; head = head_is i }

    too_long : status ≡ 413 → new ≡ old → HasLongBody c request → Receives c Plain request old.head status new.head
    too_long is same long batch again carried =
        cond-true (nat_lt c.max_body (length (body_of batch))) (record { status = 413; head = old.head }) (answer_to old.head (Ok (message (map labelled batch)))) (lt-ltb c.max_body (length (body_of batch)) (long batch again carried))
        ∙ let status_is = sym is in let head_is = ap (λ (k : Kept J). k.head) (sym same) in
        λ i. record { status = status_is i; head = head_is i }

    received : (how : How) → ((body : List ℕ) → ReadsCarried c request body → HasShortBody c request) → IsAnsweredKept seen may_leave moment left_since tears c how request old status new → Receives c how request old.head status new.head
    received Plain short (inl (asked, up)) = asked_plain (short asked.body asked.reads) asked up
    received Plain short (inr (is, same, long)) = too_long is same long
    received Busy short (is, same) = (is, ap (λ (k : Kept J). k.head) same)
    received OutOfMemory short (is, inl same) = (is, ap (λ (k : Kept J). k.head) same)
    received OutOfMemory short (is, inr asked) = (is, asked.answered.unavailable is)

  module _ (c : Setup) (request : List ℕ) (old new : Kept J) (status : ℕ) where
    -- what is so of the head as it was, and after an answer, is so then
    after-answer : (P : Kept J → Type 0) → P old → ((body : List ℕ) → Answered old body status new → P new) → (how : How) → IsAnsweredKept seen may_leave moment left_since tears c how request old status new → P new
    after-answer P before next Plain (inl (asked, up)) = next asked.body asked.answered
    after-answer P before next Plain (inr (is, same, long)) = subst P (sym same) before
    after-answer P before next Busy (is, same) = subst P (sym same) before
    after-answer P before next OutOfMemory (is, inl same) = subst P (sym same) before
    after-answer P before next OutOfMemory (is, inr asked) = next asked.body asked.answered

  module _ (laws : RequestLaws) (between : (ended : Option Segments) (old new : Store) (segments left : Segments) → SaysWhat segments old → AllByRecursion (IsWholeText page_size) segments → ((l : Labels) → Begins (list_of old l) (list_of new l)) → (x : IsLeft tears ended new segments left) → HasNoChance tears ended new x.base left x.is → LiesBetween old new left)
      (c : Setup) (runs : List RunOfWorkers) (events : List WireEvent) (states : ℕ → KeptState J) (r : IsKeptReceiver seen may_leave moment left_since tears c runs events states) where
    -- ---- what is so after the first t events, whatever crashes left
    record Sound (t : ℕ) : Type 0 where
      keeps : (states t).kept.fault ≡ None → Keeps (states t).kept
      limits : (states t).kept.head.limits ≡ c.limits

    sound_start : (n : ℕ) (left : Segments) (t : ℕ) → IsOpenedFrom seen may_leave moment left_since tears c.limits n left (states t).kept → Sound t
    sound_start n left t opened = let at = started c.limits n left (states t).kept opened in record { keeps = λ _. at.keeps; limits = at.limits_are }

    sound_step : (t : ℕ) (event : WireEvent) → Sound t → HappensToKept seen may_leave moment left_since tears c runs event states t → Sound (suc t)
    sound_step t (Comes p how status) s h =
        let both = after-answer c h.x.request (states t).kept (states (suc t)).kept status (λ (k : Kept J). (k.fault ≡ None → Keeps k) × (k.head.limits ≡ c.limits)) (s.keeps, s.limits)
        (λ body a. (a.kept, limits-stay (states t).kept body status (states (suc t)).kept a ∙ s.limits)) how h.answered in
        record { keeps = both.0; limits = both.1 }
    sound_step t Reopens s h = sound_start h.tries h.left (suc t) h.opened
    sound_step t (ReopensDuring p) s h = sound_start h.tries h.left (suc t) h.opened

    sound : (t : ℕ) → t ≤ length events → Sound t
    sound zero le = sound_start r.tries r.fresh 0 r.opened
    sound (suc t) le = let found = get_some events t (omega (arith, le)) in sound_step t found.0 (sound t (omega (arith, le))) (r.happens t found.0 found.1)

    -- ---- a crash
    module _ (t : ℕ) (le : t ≤ length events) (body : List ℕ) (left : Segments) (crash : IsCrash seen may_leave moment left_since tears states t body left) where
      abbrev before : Kept J
      before = (states crash.since).kept

      abbrev most : Store
      most = (answer before.head body).head.store

      before_is : Sound crash.since
      before_is = let early = crash.early in sound crash.since (omega (arith, early, le))

      held : (states t).kept.head.store ≡ before.head.store
      held = elim crash.now [
        | inl same ↦ ap (λ (n : ℕ). (states n).kept.head.store) same
        | inr f ↦ asked-more f.more crash.after (states t).kept f.error f.fault f.asked ∙ crash.answered.refused f.refused
      ]

      left-between : LiesBetween (states t).kept.head.store most left
      left-between =
          let keeps = before_is.keeps crash.no_fault in
          subst (λ (s : Store). LiesBetween s most left) (sym held)
          (between (ended_with crash.status (seen crash.after.journal)) before.head.store most (seen before.journal) left keeps.says keeps.whole crash.answered.begins ((crash.answered.any_moment crash.no_fault).each left crash.leaves) crash.no_chance)

      -- if the head takes the message of the body
      most-taken : (batch : List Placed) → IsReadAgain batch → body ≡ body_of batch → (answer before.head body).status ≡ 204 → taken_all c.limits (Ok (states t).kept.head.store) (message (map labelled batch)) ≡ Ok most
      most-taken batch again is taken =
          let reads : read body ≡ Ok (message (map labelled batch)) = ap read is ∙ again in
          subst (λ (limits : LabelLimits). taken_all limits (Ok (states t).kept.head.store) (message (map labelled batch)) ≡ Ok most) before_is.limits
          (subst (λ (s : Store). taken_all before.head.limits (Ok s) (message (map labelled batch)) ≡ Ok most) (sym held)
          (answers-taken before.head (message (map labelled batch)) (sym (ap (λ (found : Result WriteRequest WireFault). (answer_to before.head found).status) reads) ∙ taken)
          ∙ ap (λ (found : Result WriteRequest WireFault). Ok (answer_to before.head found).head.store) (sym reads)))

      -- if it does not
      left-refused : (answer before.head body).status ≢ 204 → LiesBetween (states t).kept.head.store (states t).kept.head.store left
      left-refused other = subst (λ (s : Store). LiesBetween (states t).kept.head.store s left) (answer-kept before.head (read body) other ∙ sym held) left-between

    left-idle : (t : ℕ) → Sound t → (left : Segments) → IsIdleCrash seen may_leave moment left_since tears (states t).kept left → LiesBetween (states t).kept.head.store (states t).kept.head.store left
    left-idle t s left (inl no_fault, leaves) = let keeps = s.keeps no_fault in subst (LiesBetween (states t).kept.head.store (states t).kept.head.store) (sym (keeps.synced left leaves)) (lies-still (states t).kept.head.store (seen (states t).kept.journal) keeps.says)
    left-idle t s left (inr keeps, leaves) = subst (LiesBetween (states t).kept.head.store (states t).kept.head.store) (sym (keeps.synced left leaves)) (lies-still (states t).kept.head.store (seen (states t).kept.journal) keeps.says)

    left-by : (t : ℕ) → t ≤ length events → (left : Segments) → IsIdleCrash seen may_leave moment left_since tears (states t).kept left ⊎ IsCrashAtRefused seen may_leave moment left_since tears states t left → LiesBetween (states t).kept.head.store (states t).kept.head.store left
    left-by t le left (inl idle) = left-idle t (sound t le) left idle
    left-by t le left (inr (body, crash, other)) = left-refused t le body left crash other

    -- ---- what was acknowledged begins the store
    abbrev Acknowledged : ℕ → Type 0
    Acknowledged t = (l : Labels) → Begins (list_of (states t).acknowledged l) (list_of (states t).kept.head.store l)

    module _ (t : ℕ) (le : t ≤ length events) (had : Acknowledged t) where
      reopens : HasReopened seen may_leave moment left_since tears c states t → IsRestarted (receiver_state (wire_state (states t))) (states t).kept.head.store (receiver_state (wire_state (states (suc t))))
      reopens h = restarted (states t).kept.head.store (states t).kept.head.store (states (suc t)).kept.head.store (states t).acknowledged (states (suc t)).acknowledged h.left h.acknowledged had (left-by t le h.left h.crash)
          (started c.limits h.tries h.left (states (suc t)).kept h.opened).says

      happens : (event : WireEvent) → HappensToKept seen may_leave moment left_since tears c runs event states t → HappensOnWire c runs event (wire_state (states t)) (wire_state (states (suc t)))
      happens (Comes p how status) h = record {
        w = h.w;
        x = h.x;
        is = h.is;
        received = received laws c r.sound h.x.request (states t).kept (states (suc t)).kept status how (λ body reads. r.reads p h.w h.x body h.is reads) h.answered;
        acknowledged = h.acknowledged;
      }
      happens Reopens h = reopens h
      happens (ReopensDuring p) h = record {
        w = h.w;
        x = h.x;
        is = h.is;
        most = most t le h.body h.left h.crash;
        judged = λ batch again is. most-taken t le h.body h.left h.crash batch again (carries laws c r.sound h.x.request h.body h.reads batch is (r.reads p h.w h.x h.body h.is h.reads batch again is)) h.taken;
        restarted = restarted (states t).kept.head.store (most t le h.body h.left h.crash) (states (suc t)).kept.head.store (states t).acknowledged (states (suc t)).acknowledged h.left h.acknowledged had (left-between t le h.body h.left h.crash)
            (started c.limits h.tries h.left (states (suc t)).kept h.opened).says;
      }

      acknowledged-after : (event : WireEvent) → HappensToKept seen may_leave moment left_since tears c runs event states t → Acknowledged (suc t)
      acknowledged-after (Comes p how status) h l =
          acknowledged-next (judgement_of status) (states t).acknowledged (states (suc t)).acknowledged (states t).kept.head.store (states (suc t)).kept.head.store h.acknowledged l (had l)
          (after-answer c h.x.request (states t).kept (states (suc t)).kept status (λ (k : Kept J). Begins (list_of (states t).kept.head.store l) (list_of k.head.store l)) (begins_itself (list_of (states t).kept.head.store l))
          (λ body a. grows (states t).kept body status (states (suc t)).kept a l) how h.answered)
      acknowledged-after Reopens h l =
          let after = reopens h in
          subst (λ (s : Store). Begins (list_of s l) (list_of (states (suc t)).kept.head.store l)) (sym after.same) (after.least l)
      acknowledged-after (ReopensDuring p) h l =
          let after = happens (ReopensDuring p) h in
          subst (λ (s : Store). Begins (list_of s l) (list_of (states (suc t)).kept.head.store l)) (sym after.restarted.same) (after.restarted.least l)

    acknowledged : (t : ℕ) → t ≤ length events → Acknowledged t
    acknowledged zero le = λ l. subst (λ (s : Store). Begins (list_of s l) (list_of (states 0).kept.head.store l)) (sym r.none_yet) (subst (λ ys. Begins ys (list_of (states 0).kept.head.store l)) (sym (list_of-empty l)) (list_of (states 0).kept.head.store l, refl))
    acknowledged (suc t) le = let found = get_some events t (omega (arith, le)) in acknowledged-after t (omega (arith, le)) (acknowledged t (omega (arith, le))) found.0 (r.happens t found.0 found.1)

    wire_receiver : IsWireReceiverKept seen may_leave moment left_since tears c runs events states
    wire_receiver _ = record {
      runs_are = r.runs_are;
      begins = λ l. (
        (started c.limits r.tries r.fresh (states 0).kept r.opened).says l ∙ r.no_samples l,
        ap (λ (s : Store). list_of s l) r.none_yet ∙ list_of-empty l,
      );
      limits = λ at le. (sound at le).limits;
      happens = λ at event is.
          let within = slice_get_within events at event is in
          happens at (omega (arith, within)) (acknowledged at (omega (arith, within))) event (r.happens at event is);
      answers = r.answers;
    }

  pub kept-on-wire : RequestLaws → ((ended : Option Segments) (old new : Store) (segments left : Segments) → SaysWhat segments old → AllByRecursion (IsWholeText page_size) segments → ((l : Labels) → Begins (list_of old l) (list_of new l)) → (x : IsLeft tears ended new segments left) → HasNoChance tears ended new x.base left x.is → LiesBetween old new left)
      → (c : Setup) (runs : List RunOfWorkers) (events : List WireEvent) (states : ℕ → KeptState J) → IsWireReceiverKept seen may_leave moment left_since tears c runs events states
  kept-on-wire laws between c runs events states r = wire_receiver laws between c runs events states r r

  pub kept-holds : RequestLaws → ((ended : Option Segments) (old new : Store) (segments left : Segments) → SaysWhat segments old → AllByRecursion (IsWholeText page_size) segments → ((l : Labels) → Begins (list_of old l) (list_of new l)) → (x : IsLeft tears ended new segments left) → HasNoChance tears ended new x.base left x.is → LiesBetween old new left)
      → (c : Setup) (runs : List RunOfWorkers) (events : List WireEvent) (states : ℕ → KeptState J) (choice : Choice) (log : List Entry) (l : Labels)
      → HoldsLogByWire c runs events (λ (at : ℕ). wire_state (states at)) choice log l → HoldsLogKept seen may_leave moment left_since tears c runs events states choice log l
  kept-holds laws between c runs events states choice log l holds r over no_gap = holds (wire_receiver laws between c runs events states r r) over no_gap

  pub kept-refuses-none : RequestLaws → ((ended : Option Segments) (old new : Store) (segments left : Segments) → SaysWhat segments old → AllByRecursion (IsWholeText page_size) segments → ((l : Labels) → Begins (list_of old l) (list_of new l)) → (x : IsLeft tears ended new segments left) → HasNoChance tears ended new x.base left x.is → LiesBetween old new left)
      → (c : Setup) (runs : List RunOfWorkers) (events : List WireEvent) (states : ℕ → KeptState J) (choice : Choice) (log : List Entry) (among : Labels → Bool)
      → RefusesNone c runs events (λ (at : ℕ). wire_state (states at)) choice log among → RefusesNoneKept seen may_leave moment left_since tears c runs events states choice log among
  kept-refuses-none laws between c runs events states choice log among none r over can short = none (wire_receiver laws between c runs events states r r) over can short
