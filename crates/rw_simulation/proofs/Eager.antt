-- A shard is put one item, and its worker makes the steps up to its next take.
use Rattle.std.proofs.Common.{◌≡◌, ℕ, suc, ◌+◌, ◌<◌, ◌≤◌, Bool, true, false, List, [], ◌∷◌, ◌++◌, map, length, Some, None, slice_get, refl, sym, ap, ◌∙◌, subst, append-nil, append_assoc, length-append, arith, ◌⊎◌, inl, inr}
use Rattle.std.specs.List.{AllByRecursion}
use Rattle.std.proofs.lemmas.List.{map-append}
use Rattle.rw_plain_queue.specs.Items.{is_end}
use Rattle.rw_plain_queue.specs.declared.item.Item.{Item}
use Rattle.rw_plain_queue.specs.declared.item.Item.TheVariants.{Sample, Flush, End}
use Rattle.rw_shard_core.specs.Shard.{Core}
use Rattle.rw_worker.specs.Transcript.{Exchange}
use Rattle.rw_worker.specs.Steps.{Working, working, Step, Takes, Freezes, Sends, Waits, AreSteps, after, after_step, items_of, exchanges_of}
use Rattle.rw_worker.proofs.shared.StepLemmas.{exchanges-append}
use Rattle.rw_machine.specs.Shards.{Shard, Queued, One, FlushMark, EndMark}
use Rattle.rw_machine.specs.Worlds.{Setup, Request, World}
use Rattle.rw_machine.specs.Worlds as worlds
use Rattle.rw_simulation.specs.Freely.{Happening, IsOwn, run_freely}
use Rattle.rw_simulation.specs.WorkerRuns.{queued, step_happenings, happenings, steps_names, IsAfter, IsIdOf, IsShardNumbered, sent_bytes, request_in}
use Rattle.rw_simulation.specs.EpochRuns.{YetToCome, StartsByTaking, IsReady}
use Rattle.rw_simulation.proofs.Changes.{change-same}
use Rattle.rw_simulation.proofs.WorkerSteps.{moved}
use Rattle.rw_simulation.proofs.WorkerLists.{after-is, numbered-after, epoch-all, ended-after, no_items as some_item}
use Rattle.rw_simulation.proofs.WorkerRuns.{worker-run}
use Rattle.rw_simulation.proofs.Tallies.{Names, GrowAlike, alike-self, alike-by}

-- the steps up to the next take, and those from it on
abbrev pub no_takes : List Step → List Step
no_takes [] = []
no_takes (Takes x ∷ ss) = []
no_takes (Freezes ∷ ss) = Freezes ∷ no_takes ss
no_takes (Sends e ∷ ss) = Sends e ∷ no_takes ss
no_takes (Waits ∷ ss) = Waits ∷ no_takes ss

abbrev pub from_take : List Step → List Step
from_take [] = []
from_take (Takes x ∷ ss) = Takes x ∷ ss
from_take (Freezes ∷ ss) = from_take ss
from_take (Sends e ∷ ss) = from_take ss
from_take (Waits ∷ ss) = from_take ss

both_parts : (ss : List Step) → no_takes ss ++ from_take ss ≡ ss
both_parts [] = refl
both_parts (Takes x ∷ ss) = refl
both_parts (Freezes ∷ ss) = ap (λ xs. Freezes ∷ xs) (both_parts ss)
both_parts (Sends e ∷ ss) = ap (λ xs. Sends e ∷ xs) (both_parts ss)
both_parts (Waits ∷ ss) = ap (λ xs. Waits ∷ xs) (both_parts ss)

no_items : (ss : List Step) → items_of (no_takes ss) ≡ []
no_items [] = refl
no_items (Takes x ∷ ss) = refl
no_items (Freezes ∷ ss) = no_items ss
no_items (Sends e ∷ ss) = no_items ss
no_items (Waits ∷ ss) = no_items ss

same_items : (ss : List Step) → items_of (from_take ss) ≡ items_of ss
same_items [] = refl
same_items (Takes x ∷ ss) = refl
same_items (Freezes ∷ ss) = same_items ss
same_items (Sends e ∷ ss) = same_items ss
same_items (Waits ∷ ss) = same_items ss

starts_by : (ss : List Step) → StartsByTaking (from_take ss)
starts_by [] = tt
starts_by (Takes x ∷ ss) = tt
starts_by (Freezes ∷ ss) = starts_by ss
starts_by (Sends e ∷ ss) = starts_by ss
starts_by (Waits ∷ ss) = starts_by ss

no_exchange : (e : Exchange) (es : List Exchange) → e ∷ es ≡ [] → ⊥
no_exchange e es h = cc

no_sends : (ss : List Step) → exchanges_of ss ≡ [] → exchanges_of (no_takes ss) ≡ []
no_sends [] h = refl
no_sends (Takes x ∷ ss) h = refl
no_sends (Freezes ∷ ss) h = no_sends ss h
no_sends (Sends e ∷ ss) h = absurd (no_exchange e (exchanges_of ss) h)
no_sends (Waits ∷ ss) h = no_sends ss h

-- steps that send nothing are events of the sender's own
pub own-steps : (c : Setup) (w : World) (k : ℕ) (ss : List Step) → exchanges_of ss ≡ [] → AllByRecursion IsOwn (happenings c w k ss)
own-steps c w k [] h = tt
own-steps c w k (Takes x ∷ ss) h = (tt, own-steps c (run_freely c (step_happenings w k (Takes x)) w) k ss h)
own-steps c w k (Freezes ∷ ss) h = (tt, own-steps c (run_freely c (step_happenings w k Freezes) w) k ss h)
own-steps c w k (Sends e ∷ ss) h = absurd (no_exchange e (exchanges_of ss) h)
own-steps c w k (Waits ∷ ss) h = own-steps c w k ss h

steps_front : (w : Working) (xs ys : List Step) → AreSteps w (xs ++ ys) → AreSteps w xs
steps_front w [] ys h = tt
steps_front w (x ∷ xs) ys h = (h.0, steps_front (after_step x w) xs ys h.1)

steps_back : (w : Working) (xs ys : List Step) → AreSteps w (xs ++ ys) → AreSteps (after w xs) ys
steps_back w [] ys h = h
steps_back w (x ∷ xs) ys h = steps_back (after_step x w) xs ys h.1

after_both : (w : Working) (xs ys : List Step) → after w (xs ++ ys) ≡ after (after w xs) ys
after_both w [] ys = refl
after_both w (x ∷ xs) ys = after_both (after_step x w) xs ys

numbered_all : (i : ℕ) (w : Working) (ss : List Step) → AreSteps w ss → IsShardNumbered i w.core → IsShardNumbered i (after w ss).core
numbered_all i w [] h n = n
numbered_all i w (s ∷ ss) h n = numbered_all i (after_step s w) ss h.1 (subst (IsShardNumbered i) (sym (after-is s w.core w.ledger h.0)) (numbered-after i s w.core h.0 n))

-- steps that take nothing do not end the shard
ended_all : (w : Working) (ss : List Step) → AreSteps w ss → items_of ss ≡ [] → (after w ss).core.ended ≡ w.core.ended
ended_all w [] h none = refl
ended_all w (Takes x ∷ ss) h none = absurd (some_item x (items_of ss) none)
ended_all w (Freezes ∷ ss) h none = ended_all (after_step Freezes w) ss h.1 none ∙ ap (λ (k : Core). k.ended) (after-is Freezes w.core w.ledger h.0) ∙ ended-after Freezes w.core refl
ended_all w (Sends e ∷ ss) h none = ended_all (after_step (Sends e) w) ss h.1 none ∙ ap (λ (k : Core). k.ended) (after-is (Sends e) w.core w.ledger h.0) ∙ ended-after (Sends e) w.core refl
ended_all w (Waits ∷ ss) h none = ended_all w ss h.1 none

abbrev ends : Queued → Bool
ends (One x) = false
ends FlushMark = false
ends (EndMark kind) = true

ends_if : (x : Item) → ends (queued x) ≡ is_end x
ends_if (Sample place t word labels) = refl
ends_if Flush = refl
ends_if (End kind) = refl

-- The shard has been put an item, and is ready for the next one.
pub record GoesThrough (c : Setup) (w : World) (k : ℕ) (s : Shard) (d : YetToCome) (puts : List Item) : Type 0 where
  pub events : List Happening
  pub shard : Shard
  pub coming : YetToCome
  pub ready : IsReady c k shard coming
  pub put_is : shard.put ≡ s.put
  pub puts_are : coming.puts ≡ puts
  pub left_is : coming.left ≡ d.left
  pub worker_is : after (working shard.core coming.ledger) coming.steps ≡ after (working s.core d.ledger) d.steps
  pub epoch_is : shard.core.epoch ≡ s.core.epoch
  pub names : Names
  pub grow : GrowAlike w.names names d.ledger.names coming.ledger.names
  pub more : List Request
  pub ids : AllByRecursion (IsIdOf s.core.epoch k) more
  pub sent_is : map sent_bytes more ++ map request_in (exchanges_of coming.steps) ≡ map request_in (exchanges_of d.steps)
  pub replies : List worlds.Reply
  pub is : run_freely c events w ≡ moved w k shard names (w.requests ++ more) replies
  pub own : exchanges_of d.steps ≡ [] → AllByRecursion IsOwn events

tail_is : (x y : Queued) (xs ys : List Queued) → x ∷ xs ≡ y ∷ ys → xs ≡ ys
tail_is x y xs ys e = cc

head_is : (x y : Queued) (xs ys : List Queued) → x ∷ xs ≡ y ∷ ys → x ≡ y
head_is x y xs ys e = cc

some_step : (st : Step) (ss : List Step) → st ∷ ss ≡ [] → ⊥
some_step st ss e = cc

-- with the item at the back of the queue
abbrev pub with_item : Shard → Item → Shard
with_item s x = record s { queue = s.queue ++ queued x ∷ [] }

pub put-one : (c : Setup) (w : World) (k : ℕ) (s : Shard) (x : Item) (puts : List Item) (d : YetToCome) → d.puts ≡ x ∷ puts → is_end x ≡ false → IsReady c k s d → w.killed ≡ false → w.closed ≡ None → slice_get w.shards k ≡ Some (with_item s x) → GoesThrough c w k (with_item s x) d puts
put-one c w k s x puts d is more h alive unclosed e = by_steps d.steps refl
  where
    split : s.queue ++ (queued x ∷ map queued puts) ≡ map queued (items_of d.steps) ++ d.left
    split = ap (λ (xs : List Item). s.queue ++ map queued xs) (sym is) ∙ h.split

    by_steps : (ss : List Step) → d.steps ≡ ss → GoesThrough c w k (with_item s x) d puts
    by_steps [] none = record {
      events = [];
      shard = with_item s x;
      coming = record { ledger = d.ledger; puts = puts; steps = []; left = d.left };
      ready = record {
        numbered = h.numbered;
        allowed = tt;
        split = append_assoc s.queue (queued x ∷ []) (map queued puts) ∙ split ∙ ap (λ (ss : List Step). map queued (items_of ss) ++ d.left) none;
        eager = inr refl;
        starts = tt;
        within = h.within;
        unended = h.unended;
        running = h.running;
      };
      put_is = refl;
      puts_are = refl;
      left_is = refl;
      worker_is = ap (after (working s.core d.ledger)) (sym none);
      epoch_is = refl;
      names = w.names;
      grow = alike-self w.names d.ledger.names;
      more = [];
      ids = tt;
      sent_is = ap (λ (ss : List Step). map request_in (exchanges_of ss)) (sym none);
      replies = w.replies;
      is = ap (λ ss. record w { shards = ss }) (sym (change-same k w.shards (with_item s x) e)) ∙ ap (λ rs. moved w k (with_item s x) w.names rs w.replies) (sym (append-nil w.requests));
      own = λ _. tt;
    }
    by_steps (Freezes ∷ ss) some = absurd (subst StartsByTaking some h.starts)
    by_steps (Sends f ∷ ss) some = absurd (subst StartsByTaking some h.starts)
    by_steps (Waits ∷ ss) some = absurd (subst StartsByTaking some h.starts)
    by_steps (Takes y ∷ ss) some = by_eager h.eager
      where
        allowed : AreSteps (working s.core d.ledger) ((Takes y ∷ no_takes ss) ++ from_take ss)
        allowed = subst (AreSteps (working s.core d.ledger)) (some ∙ ap (λ xs. Takes y ∷ xs) (sym (both_parts ss))) h.allowed

        by_eager : (s.queue ≡ []) ⊎ (d.steps ≡ []) → GoesThrough c w k (with_item s x) d puts
        by_eager (inr none) = absurd (some_step (Takes y) ss (sym some ∙ none))
        by_eager (inl empty) = record {
          events = happenings c w k (Takes y ∷ no_takes ss);
          shard = record (with_item s x) { queue = []; core = (after (working s.core d.ledger) (Takes y ∷ no_takes ss)).core };
          coming = record { ledger = (after (working s.core d.ledger) (Takes y ∷ no_takes ss)).ledger; puts = puts; steps = from_take ss; left = d.left };
          ready = record {
            numbered = numbered_all k (working s.core d.ledger) (Takes y ∷ no_takes ss) (steps_front (working s.core d.ledger) (Takes y ∷ no_takes ss) (from_take ss) allowed) h.numbered;
            allowed = steps_back (working s.core d.ledger) (Takes y ∷ no_takes ss) (from_take ss) allowed;
            split = tail_is (queued x) (queued y) (map queued puts) (map queued (items_of ss) ++ d.left) front ∙ ap (λ (xs : List Item). map queued xs ++ d.left) (sym (same_items ss));
            eager = inl refl;
            starts = starts_by ss;
            within = h.within;
            unended = h.unended;
            running = ended_all (after_step (Takes y) (working s.core d.ledger)) (no_takes ss) (steps_front (working s.core d.ledger) (Takes y ∷ no_takes ss) (from_take ss) allowed).1 (no_items ss) ∙ ended-after (Takes y) s.core open_still ∙ h.running;
          };
          put_is = refl;
          puts_are = refl;
          left_is = refl;
          worker_is = sym (after_both (working s.core d.ledger) (Takes y ∷ no_takes ss) (from_take ss)) ∙ ap (after (working s.core d.ledger)) (ap (λ xs. Takes y ∷ xs) (both_parts ss) ∙ sym some);
          epoch_is = epoch-all (working s.core d.ledger) (Takes y ∷ no_takes ss) (steps_front (working s.core d.ledger) (Takes y ∷ no_takes ss) (from_take ss) allowed);
          names = steps_names (Takes y ∷ no_takes ss) (working s.core d.ledger) w.names;
          grow = subst (λ (m : Names). GrowAlike w.names (steps_names (Takes y ∷ no_takes ss) (working s.core d.ledger) w.names) d.ledger.names m) (sym ran.ledger_is) (alike-by (Takes y ∷ no_takes ss) (working s.core d.ledger) w.names d.ledger.names);
          more = ran.requests;
          ids = ran.ids;
          sent_is = ap (λ (bs : List (List ℕ)). bs ++ map request_in (exchanges_of (from_take ss))) ran.sent
              ∙ sym (map-append request_in (exchanges_of (Takes y ∷ no_takes ss)) (exchanges_of (from_take ss)))
              ∙ ap (map request_in) (sym (exchanges-append (Takes y ∷ no_takes ss) (from_take ss)))
              ∙ ap (λ (ss : List Step). map request_in (exchanges_of ss)) (ap (λ xs. Takes y ∷ xs) (both_parts ss) ∙ sym some);
          replies = w.replies ++ ran.replies;
          is = ran.is;
          own = λ none. own-steps c w k (Takes y ∷ no_takes ss) (no_sends ss (ap exchanges_of (sym some) ∙ none));
        }
          where
            front : queued x ∷ map queued puts ≡ queued y ∷ (map queued (items_of ss) ++ d.left)
            front = ap (λ (q : List Queued). q ++ (queued x ∷ map queued puts)) (sym empty) ∙ split ∙ ap (λ (ss : List Step). map queued (items_of ss) ++ d.left) some

            open_still : is_end y ≡ false
            open_still = sym (ends_if y) ∙ ap ends (sym (head_is (queued x) (queued y) (map queued puts) (map queued (items_of ss) ++ d.left) front)) ∙ ends_if x ∙ more

            in_queue : s.queue ++ queued x ∷ [] ≡ queued y ∷ (map queued (items_of (no_takes ss)) ++ [])
            in_queue = ap (λ (q : List Queued). q ++ queued x ∷ []) empty ∙ ap (λ (q : Queued). q ∷ []) (head_is (queued x) (queued y) (map queued puts) (map queued (items_of ss) ++ d.left) front) ∙ ap (λ (xs : List Item). queued y ∷ (map queued xs ++ [])) (sym (no_items ss))

            ran : IsAfter w k (with_item s x) d.ledger (Takes y ∷ no_takes ss) [] (run_freely c (happenings c w k (Takes y ∷ no_takes ss)) w)
            ran = worker-run c w k (with_item s x) d.ledger (Takes y ∷ no_takes ss) [] alive (inl unclosed) e h.numbered in_queue (steps_front (working s.core d.ledger) (Takes y ∷ no_takes ss) (from_take ss) allowed)

-- there is room for the next item
pub has-room : (c : Setup) (k : ℕ) (s : Shard) (x : Item) (puts : List Item) (d : YetToCome) → 1 ≤ c.capacity → d.puts ≡ x ∷ puts → IsReady c k s d → length s.queue < c.capacity
has-room c k s x puts d some is h = by_eager h.eager
  where
    long : length s.queue + suc (length (map queued puts)) ≡ length (map queued (items_of d.steps) ++ d.left)
    long = sym (length-append s.queue (queued x ∷ map queued puts)) ∙ ap length (ap (λ (xs : List Item). s.queue ++ map queued xs) (sym is) ∙ h.split)

    by_eager : (s.queue ≡ []) ⊎ (d.steps ≡ []) → length s.queue < c.capacity
    by_eager (inl empty) = let none = ap length empty in omega arith
    by_eager (inr none) = let left = long ∙ ap (λ (ss : List Step). length (map queued (items_of ss) ++ d.left)) none in let most = h.within in omega arith
