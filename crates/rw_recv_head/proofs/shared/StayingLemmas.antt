-- What a head has taken it keeps.
use Rattle.std.proofs.Common.{◌≡◌, ℕ, List, [], ◌∷◌, ◌++◌, Result, Ok, Err, refl, sym, ap, ◌∙◌, subst, false}
use Rattle.rw_types.specs.Beginnings.{Begins}
use Rattle.rw_types.proofs.shared.BeginningLemmas.{begins_itself, begins_twice}
use Rattle.rw_types.specs.Labels.{Labels}
use Rattle.rw_write_request.specs.Message.{WriteRequest}
use Rattle.rw_write_request.specs.Read.{read}
use Rattle.rw_write_request.specs.declared.fault.WireFault.{WireFault}
use Rattle.rw_head.specs.declared.verdict.Verdict.{Verdict}
use Rattle.rw_head.specs.Head.{State, judged_body}
use Rattle.rw_head.specs.Store.{Store, list_of, HasNoEmptyList}
use Rattle.rw_head.specs.Verdicts.{LabelLimits, judged, taken_all}
use Rattle.rw_head.specs.Growth.{EachRises}
use Rattle.rw_head.proofs.shared.GrowthLemmas.{kept_grown}
use Rattle.rw_recv_head.specs.Seats.{store_after}

-- a store that is in order, and has at least what the old one had, each list first
pub record Keeps (old new : Store) : Type 0 where
  pub rises : EachRises new
  pub filled : HasNoEmptyList new
  pub begins : (l : Labels) → Begins (list_of old l) (list_of new l)

keeps_itself : (s : Store) → EachRises s → HasNoEmptyList s → Keeps s s
keeps_itself s h k = record { rises = h; filled = k; begins = λ l. begins_itself (list_of s l) }

-- a message that is taken
pub message_keeps : (limits : LabelLimits) (m : WriteRequest) (store next : Store) → EachRises store → HasNoEmptyList store → taken_all limits (Ok store) m ≡ Ok next → Keeps store next
message_keeps limits m store next h k e =
    let g = kept_grown limits m (record { kept = store; staged = store; added = []; noted = 0; placed = []; forgets = false }) next next (record { settled = refl; rises = h; filled = k; unnoted = refl }) e refl in
    record { rises = g.rises; filled = g.filled; begins = g.begins }

judged_keeps : (head : State) (m : WriteRequest) (r : Result Store Verdict) → EachRises head.store → HasNoEmptyList head.store
    → taken_all head.limits (Ok head.store) m ≡ r → Keeps head.store (judged head.store r).store
judged_keeps head m (Err v) h k e = keeps_itself head.store h k
judged_keeps head m (Ok next) h k e = message_keeps head.limits m head.store next h k e

body_keeps : (head : State) (found : Result WriteRequest WireFault) → EachRises head.store → HasNoEmptyList head.store
    → Keeps head.store (judged_body head found).store
body_keeps head (Err e) h k = keeps_itself head.store h k
body_keeps head (Ok m) h k = judged_keeps head m (taken_all head.limits (Ok head.store) m) h k refl

pub after_keeps : (head : State) (bodies : List (List ℕ)) → EachRises head.store → HasNoEmptyList head.store → Keeps head.store (store_after head bodies)
after_keeps head [] h k = keeps_itself head.store h k
after_keeps head (b ∷ bodies) h k =
    let one = body_keeps head (read b) h k in
    let rest = after_keeps (record head { store = (judged_body head (read b)).store }) bodies one.rises one.filled in
    record { rises = rest.rises; filled = rest.filled; begins = λ l. begins_twice _ _ _ (one.begins l) (rest.begins l) }

pub store_after-append : (head : State) (xs ys : List (List ℕ)) → store_after head (xs ++ ys) ≡ store_after (record head { store = store_after head xs }) ys
store_after-append head [] ys = refl
store_after-append head (b ∷ xs) ys = store_after-append (record head { store = (judged_body head (read b)).store }) xs ys

pub stays_stored : (head : State) (seen bodies : List (List ℕ)) (l : Labels) → EachRises head.store → HasNoEmptyList head.store → Begins seen bodies
    → Begins (list_of (store_after head seen) l) (list_of (store_after head bodies) l)
stays_stored head seen bodies l h k b =
    let first = after_keeps head seen h k in
    let rest = after_keeps (record head { store = store_after head seen }) b.0 first.rises first.filled in
    subst (λ s. Begins (list_of (store_after head seen) l) (list_of s l))
    (sym (ap (store_after head) b.1 ∙ store_after-append head seen b.0)) (rest.begins l)
