-- What holds of a worker's shard after each step.
use Rattle.std.proofs.Common.{◌≡◌, ℕ, ◌+◌, ◌-◌, ◌<◌, ◌≤◌, Bool, true, false, true≢false, not, ◌||◌, nat_le, List, [], ◌∷◌, ◌++◌, length, Result, Ok, Err, refl, sym, ap, ◌∙◌, subst, append_assoc, append-nil, length-append, zero-add, arith, cond}
use Rattle.std.proofs.lemmas.Bool.{not-true}
use Rattle.std.proofs.lemmas.Bool.Decides.{nat_tests}
use Rattle.std.specs.Ordering.{nat_cmp}
use Rattle.std.specs.FinMap.{FinMap, empty}
use Rattle.std.proofs.Math.Bool.{or-false}
use Rattle.rw_ledger.specs.Names.{Named}
use Rattle.rw_ledger.specs.declared.ledger.Reason.{Reason}
use Rattle.rw_retry.specs.Judgements.{judgement_of}
use Rattle.rw_retry.specs.declared.judgement.Judgement.{Judgement}
use Rattle.rw_retry.specs.declared.judgement.Judgement.TheVariants.{Done, Again, Refused}
use Rattle.rw_plain_queue.specs.Items.{Placed, samples_in}
use Rattle.rw_plain_queue.specs.declared.item.Item.{Item}
use Rattle.rw_plain_queue.specs.declared.item.Item.TheVariants.{Sample, Flush, End}
use Rattle.rw_shard_core.specs.Shard.{Core, is_empty, is_due, can_take, take_item, placed, can_freeze, freeze, freeze_room, can_send, send, request_for, batch_id, is_answer, awaits, lose, settle, settle_names, reply, reply_names}
use Rattle.rw_shard_core.specs.declared.config.Target.{Target}
use Rattle.rw_worker.specs.declared.transport.Reply.{Reply}
use Rattle.rw_worker.specs.declared.transport.Lost.{Lost}
use Rattle.rw_worker.specs.Cut.{cutting, close_batch, one_of, cut_by}
use Rattle.rw_worker.specs.Transcript.{Exchange, IsAgain, exchange_of, reply_of_status, with_names, names_after}
use Rattle.rw_worker.specs.Steps.{Working, working, new_working, Step, Takes, Freezes, Sends, Waits, MayStep, AreSteps, after, after_step, items_of, exchanges_of, after_attempt, unsettled, growing, IsTranscriptOf, HasWorked}
use Rattle.rw_worker.proofs.shared.StepLemmas.{items-append, exchanges-append}
use Rattle.rw_worker.proofs.CutLemmas.{fill}
use Rattle.rw_worker.proofs.TranscriptLemmas.{transcript-take, transcript-again, transcript-settle}
use Rattle.rw_shard_core.proofs.shared.EmptyLemmas.{nil_from_empty, is_empty-push}
use Rattle.rw_shard_core.proofs.shared.StepGuards.{take_parts, freeze_parts, send_parts, sent_core, send-is, sent-awaits, sent-answers}
use Rattle.rw_plain_queue.proofs.shared.Histories.{samples_in-append}

-- what no step touches
pub record Untouched (target : Target) (epoch shard n : ℕ) (its : Target) (its_epoch its_shard full : ℕ) (killed : Bool) : Type 0 where
  pub some : 0 < n
  pub target_is : its ≡ target
  pub epoch_is : its_epoch ≡ epoch
  pub shard_is : its_shard ≡ shard
  pub full_is : full ≡ n
  pub alive : killed ≡ false

pub record Keeps (target : Target) (epoch shard n : ℕ) (items : List Item) (exchanges : List Exchange) (w : Working) : Type 0 where
  pub untouched : Untouched target epoch shard n w.core.target w.core.epoch w.core.shard w.core.full w.core.killed
  pub idle : w.core.waiting ≡ false
  pub taken_is : w.core.taken ≡ samples_in items
  pub whole : w.core.taken ≡ w.core.resolved ++ (w.core.batch ++ w.core.builder)
  pub fits : length w.core.batch + length w.core.builder ≤ n
  pub one : is_empty w.core.batch ≡ false → w.core.builder ≡ []
  pub due_some : is_due w.core ≡ true → is_empty w.core.builder ≡ false
  pub room : w.ledger.room ≡ length w.core.batch
  pub worked : HasWorked n items exchanges w

-- the samples that are not settled, and those that wait for more
pub unsettled-due : (c : Core) → is_empty c.batch ≡ true → is_due c ≡ true → unsettled c ≡ c.builder
unsettled-due c e d = rw (e, d) refl

pub growing-due : (c : Core) → is_empty c.batch ≡ true → is_due c ≡ true → growing c ≡ []
growing-due c e d = rw (e, d) refl

pub unsettled-not : (c : Core) → is_empty c.batch ≡ true → is_due c ≡ false → unsettled c ≡ []
unsettled-not c e d = rw (e, d) refl

pub growing-not : (c : Core) → is_empty c.batch ≡ true → is_due c ≡ false → growing c ≡ c.builder
growing-not c e d = rw (e, d) refl

pub unsettled-open : (c : Core) → is_empty c.batch ≡ false → unsettled c ≡ c.batch
unsettled-open c e = rw e refl

pub growing-open : (c : Core) → is_empty c.batch ≡ false → growing c ≡ []
growing-open c e = rw e refl

-- a builder that a mark closes
closed : (xs : List Placed) → cond (not (is_empty xs)) xs [] ≡ xs
closed [] = refl
closed (x ∷ xs) = refl

closed_rest : (xs : List Placed) → cond (not (is_empty xs)) [] xs ≡ []
closed_rest [] = refl
closed_rest (x ∷ xs) = refl

abbrev with_sample : Core → Placed → Core
with_sample c x = record c { taken = c.taken ++ x ∷ []; builder = c.builder ++ x ∷ [] }

abbrev with_mark : Core → Bool → Core
with_mark c ended = record c { marked = not (is_empty c.builder); ended = ended }

sample_due : (c : Core) (x : Placed) (n : ℕ) → c.full ≡ n → c.marked ≡ false → is_due (with_sample c x) ≡ nat_le n (length (c.builder ++ x ∷ []))
sample_due c x n full m = rw (full, m) (or-false (nat_le n (length (c.builder ++ x ∷ []))))

sample_unsettled : (c : Core) (x : Placed) (n : ℕ) → is_empty c.batch ≡ true → c.full ≡ n → c.marked ≡ false → unsettled (with_sample c x) ≡ cond (nat_le n (length (c.builder ++ x ∷ []))) (c.builder ++ x ∷ []) []
sample_unsettled c x n e full m = rw e (ap (λ b. cond b (c.builder ++ x ∷ []) []) (sample_due c x n full m))

sample_growing : (c : Core) (x : Placed) (n : ℕ) → is_empty c.batch ≡ true → c.full ≡ n → c.marked ≡ false → growing (with_sample c x) ≡ cond (nat_le n (length (c.builder ++ x ∷ []))) [] (c.builder ++ x ∷ [])
sample_growing c x n e full m = rw e (ap (λ b. cond b [] (c.builder ++ x ∷ [])) (sample_due c x n full m))

mark_due : (c : Core) (ended : Bool) → nat_le c.full (length c.builder) ≡ false → is_due (with_mark c ended) ≡ not (is_empty c.builder)
mark_due c ended f = rw f refl

mark_unsettled : (c : Core) (ended : Bool) → is_empty c.batch ≡ true → nat_le c.full (length c.builder) ≡ false → unsettled (with_mark c ended) ≡ c.builder
mark_unsettled c ended e f = rw e (ap (λ b. cond b c.builder []) (mark_due c ended f) ∙ closed c.builder)

mark_growing : (c : Core) (ended : Bool) → is_empty c.batch ≡ true → nat_le c.full (length c.builder) ≡ false → growing (with_mark c ended) ≡ []
mark_growing c ended e f = rw e (ap (λ b. cond b [] c.builder) (mark_due c ended f) ∙ closed_rest c.builder)

-- the transcript if nothing is due
still : (n : ℕ) (items : List Item) (es : List Exchange) (w : Working) → HasWorked n items es w → can_take w.core ≡ true → IsTranscriptOf w.core.target n items es [] w.core.builder w.core.resolved w.ledger.names
still n items es w h can =
    let p = take_parts w.core can in
    subst (λ (r : List Placed). IsTranscriptOf w.core.target n items es [] r w.core.resolved w.ledger.names) (growing-not w.core p.none p.not_due)
    (subst (λ (u : List Placed). IsTranscriptOf w.core.target n items es u (growing w.core) w.core.resolved w.ledger.names) (unsettled-not w.core p.none p.not_due) h)

module _ (target : Target) (epoch shard n : ℕ) (items : List Item) (es : List Exchange) (c : Core) (l : Named) where
  abbrev Before : Type 0
  Before = Keeps target epoch shard n items es (working c l)

  keeps_mark : (x : Item) (ended : Bool) → Before → can_take c ≡ true → samples_in (x ∷ []) ≡ [] → ((bs : List (List Placed)) (r : List Placed) → cut_by n (cutting bs r) x ≡ close_batch (cutting bs r))
      → Keeps target epoch shard n (items ++ x ∷ []) es (working (with_mark c ended) l)
  keeps_mark x ended h can none by =
      let p = take_parts c can in record {
        untouched = h.untouched;
        idle = h.idle;
        taken_is = h.taken_is ∙ sym (append-nil (samples_in items)) ∙ ap (λ ys. samples_in items ++ ys) (sym none) ∙ sym (samples_in-append items (x ∷ []));
        whole = h.whole;
        fits = h.fits;
        one = h.one;
        due_some = λ d. not-true (is_empty c.builder) (sym (mark_due c ended p.not_full) ∙ d);
        room = h.room;
        worked = transcript-take c.target n items es c.builder c.resolved l.names x (unsettled (with_mark c ended)) (growing (with_mark c ended)) (still n items es (working c l) h.worked can)
            (λ bs. by bs c.builder ∙ ap (λ ys. cutting (bs ++ one_of ys) []) (sym (mark_unsettled c ended p.none p.not_full)) ∙ ap (λ r. cutting (bs ++ one_of (unsettled (with_mark c ended))) r) (sym (mark_growing c ended p.none p.not_full)));
      }

  keeps_sample : (x : Item) (y : Placed) → Before → can_take c ≡ true → samples_in (x ∷ []) ≡ y ∷ []
      → ((bs : List (List Placed)) (r : List Placed) → cut_by n (cutting bs r) x ≡ cond (nat_le n (length (r ++ y ∷ []))) (close_batch (cutting bs (r ++ y ∷ []))) (cutting bs (r ++ y ∷ [])))
      → Keeps target epoch shard n (items ++ x ∷ []) es (working (with_sample c y) l)
  keeps_sample x y h can sample by =
      let p = take_parts c can in
      let ys = c.builder ++ y ∷ [] in
      let u = sample_unsettled c y n p.none h.untouched.full_is p.unmarked in
      let g = sample_growing c y n p.none h.untouched.full_is p.unmarked in record {
        untouched = h.untouched;
        idle = h.idle;
        taken_is = ap (λ xs. xs ++ y ∷ []) h.taken_is ∙ ap (λ zs. samples_in items ++ zs) (sym sample) ∙ sym (samples_in-append items (x ∷ []));
        whole = ap (λ xs. xs ++ y ∷ []) h.whole ∙ append_assoc c.resolved (c.batch ++ c.builder) (y ∷ []) ∙ ap (λ zs. c.resolved ++ zs) (append_assoc c.batch c.builder (y ∷ []));
        fits = let none = ap length (nil_from_empty c.batch p.none) in let left = p.room in let full = h.untouched.full_is in let longer = length-append c.builder (y ∷ []) in omega arith;
        one = λ e. absurd (true≢false (sym p.none ∙ e));
        due_some = λ d. is_empty-push c.builder y;
        room = h.room;
        worked = transcript-take c.target n items es c.builder c.resolved l.names x (unsettled (with_sample c y)) (growing (with_sample c y)) (still n items es (working c l) h.worked can)
            (λ bs. by bs c.builder ∙ fill (nat_le n (length ys)) bs ys ∙ ap (λ zs. cutting (bs ++ one_of zs) (cond (nat_le n (length ys)) [] ys)) (sym u) ∙ ap (λ r. cutting (bs ++ one_of (unsettled (with_sample c y))) r) (sym g));
      }

  -- an item more was taken
  pub keeps-take : (x : Item) → Before → can_take c ≡ true → Keeps target epoch shard n (items ++ x ∷ []) es (working (take_item x c) l)
  keeps-take (Sample place t word labels) h can = keeps_sample (Sample place t word labels) (placed place t word labels.value) h can refl (λ bs r. refl)
  keeps-take Flush h can = keeps_mark Flush c.ended h can refl (λ bs r. refl)
  keeps-take (End kind) h can = keeps_mark (End kind) true h can refl (λ bs r. refl)

  abbrev frozen : Working
  frozen = working (record c { builder = []; marked = false; batch = c.builder; waiting = false }) (record l { room = l.room + length c.builder })

  frozen_is : can_freeze c ≡ true → working (freeze c) (freeze_room c l) ≡ frozen
  frozen_is can = rw can refl

  not_due : 0 < n → c.full ≡ n → is_due frozen.core ≡ true → ⊥
  not_due some full d = below n some (sym (ap (λ (k : ℕ). nat_le k 0) full) ∙ sym (or-false (nat_le c.full 0)) ∙ d)
    where
      below : (k : ℕ) → 0 < k → nat_le k 0 ≡ true → ⊥
      below k lt e = grind (arith, nat_tests)

  -- the builder was frozen, which was due
  pub keeps-freeze : Before → is_due c ≡ true → can_freeze c ≡ true → Keeps target epoch shard n items es (working (freeze c) (freeze_room c l))
  keeps-freeze h due can =
      let p = freeze_parts c can in
      let none = nil_from_empty c.batch p.none in
      let same : unsettled frozen.core ≡ unsettled c = unsettled-open frozen.core p.some ∙ sym (unsettled-due c p.none due) in
      let rest : growing frozen.core ≡ growing c = growing-open frozen.core p.some ∙ sym (growing-due c p.none due) in
      subst (λ (w : Working). Keeps target epoch shard n items es w) (sym (frozen_is can)) (record {
        untouched = h.untouched;
        idle = refl;
        taken_is = h.taken_is;
        whole = h.whole ∙ ap (λ xs. c.resolved ++ (xs ++ c.builder)) none ∙ ap (λ xs. c.resolved ++ xs) (sym (append-nil c.builder));
        fits = let none' = ap length none in let most = h.fits in omega arith;
        one = λ e. refl;
        due_some = λ d. absurd (not_due h.untouched.some h.untouched.full_is d);
        room = ap (λ k. k + length c.builder) (h.room ∙ ap length none) ∙ zero-add (length c.builder);
        worked = subst (λ (r : List Placed). IsTranscriptOf c.target n items es (unsettled frozen.core) r c.resolved l.names) (sym rest)
            (subst (λ (u : List Placed). IsTranscriptOf c.target n items es u (growing c) c.resolved l.names) (sym same) h.worked);
      })

  -- an attempt
  abbrev settled_by : Judgement → ℕ → Working
  settled_by j status = working (settle j (sent_core c)) (settle_names j status c.batch l)

  replied : (status : ℕ) → can_send c ≡ true → working (reply (batch_id c.batch) status (sent_core c)) (reply_names (batch_id c.batch) status (sent_core c) l) ≡ settled_by (judgement_of status) status
  replied status can = rw (sent-answers c can) refl

  -- the transcript if a batch is open
  open' : HasWorked n items es (working c l) → is_empty c.batch ≡ false → IsTranscriptOf c.target n items es c.batch [] c.resolved l.names
  open' h e =
      subst (λ (r : List Placed). IsTranscriptOf c.target n items es c.batch r c.resolved l.names) (growing-open c e)
      (subst (λ (u : List Placed). IsTranscriptOf c.target n items es u (growing c) c.resolved l.names) (unsettled-open c e) h)

  abbrev exchange : Result Reply Lost → Exchange
  exchange answer = exchange_of (request_for c) answer

  abbrev settled_core : Core
  settled_core = record c { resolved = c.resolved ++ c.batch; batch = []; waiting = false }

  keeps_settle : (status room : ℕ) (names : FinMap nat_cmp Reason) → Before → can_send c ≡ true → (judgement_of status ≡ Again → ⊥) → room ≡ l.room - length c.batch → names ≡ with_names l.names (record { samples = c.batch; status = status })
      → Keeps target epoch shard n items (es ++ exchange (reply_of_status status) ∷ []) (working settled_core (record { names = names; room = room }))
  keeps_settle status room names h can final room_is names_is =
      let p = send_parts c can in
      let none = h.one p.some in
      let later = transcript-settle c.target n items es c.batch c.resolved l.names status (open' h.worked p.some) p.some final in
      let idle : is_due settled_core ≡ true → is_empty c.builder ≡ false = h.due_some in record {
        untouched = h.untouched;
        idle = refl;
        taken_is = h.taken_is;
        whole = h.whole ∙ sym (append_assoc c.resolved c.batch c.builder);
        fits = let most = h.fits in omega arith;
        one = λ e. absurd (true≢false e);
        due_some = idle;
        room = room_is ∙ (let r = h.room in omega arith);
        worked = worked_at none (subst (λ (m : FinMap nat_cmp Reason). IsTranscriptOf c.target n items (es ++ exchange (reply_of_status status) ∷ []) [] [] (c.resolved ++ c.batch) m) (sym names_is) later);
      }
    where
      at_none : c.builder ≡ [] → (b : Bool) → (cond b c.builder [] ≡ []) × (cond b [] c.builder ≡ [])
      at_none e true = (e, refl)
      at_none e false = (refl, e)

      worked_at : c.builder ≡ [] → IsTranscriptOf c.target n items (es ++ exchange (reply_of_status status) ∷ []) [] [] (c.resolved ++ c.batch) names
          → IsTranscriptOf c.target n items (es ++ exchange (reply_of_status status) ∷ []) (unsettled settled_core) (growing settled_core) (c.resolved ++ c.batch) names
      worked_at e t =
          let s = at_none e (is_due settled_core) in
          subst (λ (u : List Placed). IsTranscriptOf c.target n items (es ++ exchange (reply_of_status status) ∷ []) u (growing settled_core) (c.resolved ++ c.batch) names) (sym s.0)
          (subst (λ (r : List Placed). IsTranscriptOf c.target n items (es ++ exchange (reply_of_status status) ∷ []) [] r (c.resolved ++ c.batch) names) (sym s.1) t)

  abbrev AfterAnswer : Result Reply Lost → Working → Type 0
  AfterAnswer answer w = Keeps target epoch shard n items (es ++ exchange answer ∷ []) w

  -- the batch was sent in vain
  keeps_lost : (answer : Result Reply Lost) → IsAgain answer → Before → can_send c ≡ true → AfterAnswer answer (working (record c { waiting = false }) l)
  keeps_lost answer again h can =
      let p = send_parts c can in record {
        untouched = h.untouched;
        idle = refl;
        taken_is = h.taken_is;
        whole = h.whole;
        fits = h.fits;
        one = h.one;
        due_some = h.due_some;
        room = h.room;
        worked =
            subst (λ (r : List Placed). IsTranscriptOf c.target n items (es ++ exchange answer ∷ []) (unsettled c) r c.resolved l.names) (sym (growing-open c p.some))
            (subst (λ (u : List Placed). IsTranscriptOf c.target n items (es ++ exchange answer ∷ []) u [] c.resolved l.names) (sym (unsettled-open c p.some))
            (transcript-again c.target n items es c.batch [] c.resolved l.names answer (open' h.worked p.some) p.some again));
      }

  keeps_judged : (status : ℕ) (j : Judgement) → judgement_of status ≡ j → Before → can_send c ≡ true → AfterAnswer (reply_of_status status) (settled_by j status)
  keeps_judged status Done e h can = keeps_settle status (l.room - length c.batch) l.names h can (λ a. not_again (sym a ∙ e)) refl (rw e refl)
    where
      not_again : Again ≡ Done → ⊥
      not_again x = cc
  keeps_judged status Refused e h can = keeps_settle status (l.room - length c.batch) (names_after Refused (record { samples = c.batch; status = status }) l.names) h can (λ a. not_again (sym a ∙ e)) refl (rw e refl)
    where
      not_again : Again ≡ Refused → ⊥
      not_again x = cc
  keeps_judged status Again e h can = keeps_lost (reply_of_status status) e h can

  keeps_answered : (answer : Result Reply Lost) → Before → can_send c ≡ true → AfterAnswer answer (after_attempt answer (working (sent_core c) l))
  keeps_answered (Ok r) h can = subst (λ (w : Working). AfterAnswer (Ok r) w) (sym (replied r.status can)) (keeps_judged r.status (judgement_of r.status) refl h can)
  keeps_answered (Err lost) h can = subst (λ (w : Working). AfterAnswer (Err lost) w) (sym (lost_is can)) (keeps_lost (Err lost) tt h can)
    where
      lost_is : can_send c ≡ true → working (lose (sent_core c)) l ≡ working (record c { waiting = false }) l
      lost_is s = rw (sent-awaits c s) refl

  -- the request of the open batch was sent
  pub keeps-send : (e : Exchange) → Before → can_send c ≡ true → e.request ≡ request_for c → Keeps target epoch shard n items (es ++ e ∷ []) (after_attempt e.answer (working (send c) l))
  keeps-send e h can request =
      subst (λ (s : Core). Keeps target epoch shard n items (es ++ e ∷ []) (after_attempt e.answer (working s l))) (sym (send-is c can))
      (subst (λ (r : List ℕ). Keeps target epoch shard n items (es ++ exchange_of r e.answer ∷ []) (after_attempt e.answer (working (sent_core c) l))) (sym request) (keeps_answered e.answer h can))

pub frozen-builder : (c : Core) → can_freeze c ≡ true → (freeze c).builder ≡ []
frozen-builder c can = rw can refl

settled_builder : (b : Bool) (j : Judgement) (c : Core) → (cond b (settle j c) c).builder ≡ c.builder
settled_builder true Done c = refl
settled_builder true Refused c = refl
settled_builder true Again c = refl
settled_builder false j c = refl

lost_builder : (b : Bool) (c : Core) → (cond b (record c { waiting = false }) c).builder ≡ c.builder
lost_builder true c = refl
lost_builder false c = refl

sent_builder : (b : Bool) (c : Core) → (cond b (record c { waiting = true }) c).builder ≡ c.builder
sent_builder true c = refl
sent_builder false c = refl

-- an attempt leaves the builder
pub answered-builder : (answer : Result Reply Lost) (w : Working) → (after_attempt answer (working (send w.core) w.ledger)).core.builder ≡ w.core.builder
answered-builder (Ok r) w = let c = send w.core in settled_builder (is_answer (batch_id c.batch) c) (judgement_of r.status) c ∙ sent_builder (can_send w.core) w.core
answered-builder (Err lost) w = let c = send w.core in lost_builder (awaits c) c ∙ sent_builder (can_send w.core) w.core

-- after one step, and after many
pub keeps-step : (target : Target) (epoch shard n : ℕ) (items : List Item) (es : List Exchange) (w : Working) (s : Step) → Keeps target epoch shard n items es w → MayStep s w.core
    → Keeps target epoch shard n (items ++ items_of (s ∷ [])) (es ++ exchanges_of (s ∷ [])) (after_step s w)
keeps-step target epoch shard n items es w (Takes x) h may = subst (λ (fs : List Exchange). Keeps target epoch shard n (items ++ x ∷ []) fs (after_step (Takes x) w)) (sym (append-nil es)) (keeps-take target epoch shard n items es w.core w.ledger x h may.0)
keeps-step target epoch shard n items es w Freezes h may =
    subst (λ (fs : List Exchange). Keeps target epoch shard n (items ++ []) fs (after_step Freezes w)) (sym (append-nil es))
    (subst (λ (xs : List Item). Keeps target epoch shard n xs es (after_step Freezes w)) (sym (append-nil items)) (keeps-freeze target epoch shard n items es w.core w.ledger h may.0 may.1))
keeps-step target epoch shard n items es w (Sends e) h may =
    subst (λ (xs : List Item). Keeps target epoch shard n xs (es ++ e ∷ []) (after_step (Sends e) w)) (sym (append-nil items)) (keeps-send target epoch shard n items es w.core w.ledger e h may.0 may.1)
keeps-step target epoch shard n items es w Waits h may =
    subst (λ (fs : List Exchange). Keeps target epoch shard n (items ++ []) fs w) (sym (append-nil es))
    (subst (λ (xs : List Item). Keeps target epoch shard n xs es w) (sym (append-nil items)) h)

pub keeps-steps : (target : Target) (epoch shard n : ℕ) (items : List Item) (es : List Exchange) (w : Working) (ss : List Step) → Keeps target epoch shard n items es w → AreSteps w ss
    → Keeps target epoch shard n (items ++ items_of ss) (es ++ exchanges_of ss) (after w ss)
keeps-steps target epoch shard n items es w [] h may =
    subst (λ (fs : List Exchange). Keeps target epoch shard n (items ++ []) fs w) (sym (append-nil es)) (subst (λ (xs : List Item). Keeps target epoch shard n xs es w) (sym (append-nil items)) h)
keeps-steps target epoch shard n items es w (s ∷ ss) h may =
    let later = keeps-steps target epoch shard n (items ++ items_of (s ∷ [])) (es ++ exchanges_of (s ∷ [])) (after_step s w) ss (keeps-step target epoch shard n items es w s h may.0) may.1 in
    let xs : (items ++ items_of (s ∷ [])) ++ items_of ss ≡ items ++ items_of (s ∷ ss) = append_assoc items (items_of (s ∷ [])) (items_of ss) ∙ ap (λ ys. items ++ ys) (sym (items-append (s ∷ []) ss)) in
    let fs : (es ++ exchanges_of (s ∷ [])) ++ exchanges_of ss ≡ es ++ exchanges_of (s ∷ ss) = append_assoc es (exchanges_of (s ∷ [])) (exchanges_of ss) ∙ ap (λ ys. es ++ ys) (sym (exchanges-append (s ∷ []) ss)) in
    subst (λ (gs : List Exchange). Keeps target epoch shard n (items ++ items_of (s ∷ ss)) gs (after w (s ∷ ss))) fs
    (subst (λ (ys : List Item). Keeps target epoch shard n ys ((es ++ exchanges_of (s ∷ [])) ++ exchanges_of ss) (after w (s ∷ ss))) xs later)

pub keeps-start : (target : Target) (epoch shard n : ℕ) → 0 < n → Keeps target epoch shard n [] [] (new_working target epoch shard n)
keeps-start target epoch shard n some = record {
  untouched = record { some = some; target_is = refl; epoch_is = refl; shard_is = refl; full_is = refl; alive = refl };
  idle = refl;
  taken_is = refl;
  whole = refl;
  fits = omega arith;
  one = λ e. refl;
  due_some = λ d. absurd (fresh n some (sym (or-false (nat_le n 0)) ∙ d));
  room = refl;
  worked = subst (λ (r : List Placed). IsTranscriptOf target n [] [] (unsettled (new_working target epoch shard n).core) r [] empty) (sym (nothing_grows (nat_le n 0 || false)))
      (subst (λ (u : List Placed). IsTranscriptOf target n [] [] u [] [] empty) (sym (nothing_due (nat_le n 0 || false))) none);
}
  where
    fresh : (k : ℕ) → 0 < k → nat_le k 0 ≡ true → ⊥
    fresh k lt e = grind (arith, nat_tests)

    nothing_due : (b : Bool) → cond b [] [] ≡ (let none : List Placed = [] in none)
    nothing_due true = refl
    nothing_due false = refl

    nothing_grows : (b : Bool) → cond b [] [] ≡ (let none : List Placed = [] in none)
    nothing_grows true = refl
    nothing_grows false = refl

    none : IsTranscriptOf target n [] [] [] [] [] empty
    none = record { settled = []; batches = refl; settling = []; tries = []; exchanges_are = refl; transcript = refl; tried = refl; resolved_are = refl; names_are = refl }
