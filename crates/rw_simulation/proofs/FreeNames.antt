-- What a free schedule names with a status.
use Rattle.std.proofs.Common.{◌≡◌, ◌⊎◌, inl, inr, ℕ, List, [], ◌∷◌, Option, Some, None, slice_get, sym, ◌∙◌}
use Rattle.std.specs.Ordering.{nat_cmp}
use Rattle.std.specs.FinMap.{get, get-empty}
use Rattle.std.proofs.lemmas.Option.{none-some}
use Rattle.rw_ledger.specs.declared.ledger.Reason.{Reason}
use Rattle.rw_ledger.specs.declared.ledger.Reason.TheVariants.{Status}
use Rattle.rw_machine.specs.Worlds.{Setup, Request, World, is_over, start}
use Rattle.rw_machine.specs.Steps.{act, happens, turned_away}
use Rattle.rw_machine.specs.declared.event.Event.{Event}
use Rattle.rw_machine.specs.Promises.{NamesExactly, Stands, refused_in}
use Rattle.rw_machine.proofs.shared.Named.{Unnamed, happens_names, none_stands, stands_left, stands_right, stands_split, stays_act, unnamed_act, unnamed_begins}
use Rattle.rw_machine.proofs.shared.Steps.{unless}
use Rattle.rw_simulation.specs.Freely.{Happening, Of, Answered, run_freely}
use Rattle.rw_simulation.specs.FreeLaws.{refused_freely, world_of}

-- a fact goes through a free schedule
pub always_freely : (I : World → Type 0) (c : Setup) → ((w : World) (e : Event) → I w → I (act c w e)) → ((w : World) (status : ℕ) (o : Option Request) → I w → I (turned_away w status o)) → (hs : List Happening) (w : World) → I w → I (run_freely c hs w)
always_freely I c keep answer [] w at = at
always_freely I c keep answer (Of e ∷ hs) w at = always_freely I c keep answer hs (happens c w e) (unless I c w e (is_over w) at (keep w e at))
always_freely I c keep answer (Answered k status ∷ hs) w at = always_freely I c keep answer hs (turned_away w status (slice_get w.requests k)) (answer w status (slice_get w.requests k) at)

pub unnamed_answer : (w : World) (status : ℕ) (o : Option Request) → Unnamed w → Unnamed (turned_away w status o)
unnamed_answer w status None at = at
unnamed_answer w status (Some r) at = record { ident = at.ident; numbered = at.numbered; fresh = at.fresh }

named_answer : (w : World) (status p : ℕ) (reason : Reason) (o : Option Request) → get w.names p ≡ Some reason → get (turned_away w status o).names p ≡ Some reason
named_answer w status p reason None h = h
named_answer w status p reason (Some r) h = h

-- a name stays
pub stays-named : (c : Setup) (p : ℕ) (reason : Reason) (hs : List Happening) (w : World) → Unnamed w → get w.names p ≡ Some reason → get (run_freely c hs w).names p ≡ Some reason
stays-named c p reason hs w at q = (always_freely Both c (λ u e b. (unnamed_act c u e b.0, stays_act c p reason u e b.0 b.1)) (λ u status o b. (unnamed_answer u status o b.0, named_answer u status p reason o b.1)) hs w (at, q)).1
  where
    Both : World → Type 0
    Both u = Unnamed u × (get u.names p ≡ Some reason)

-- an answer names nothing
answer-named : (w : World) (status p : ℕ) (reason : Reason) (o : Option Request) → get (turned_away w status o).names p ≡ Some reason → get w.names p ≡ Some reason
answer-named w status p reason None h = h
answer-named w status p reason (Some r) h = h

named-then : (c : Setup) (hs : List Happening) (w : World) (p s : ℕ) → get (run_freely c hs w).names p ≡ Some (Status s) → (get w.names p ≡ Some (Status s)) ⊎ Stands (p, s) (refused_freely c hs w)
named-then c [] w p s h = inl h
named-then c (Of e ∷ hs) w p s h = by_rest (named-then c hs (happens c w e) p s h)
  where
    by_first : (get w.names p ≡ Some (Status s)) ⊎ Stands (p, s) (refused_in w e (is_over w)) → (get w.names p ≡ Some (Status s)) ⊎ Stands (p, s) (refused_freely c (Of e ∷ hs) w)
    by_first (inl k) = inl k
    by_first (inr k) = inr (stands_left (p, s) (refused_in w e (is_over w)) (refused_freely c hs (happens c w e)) k)

    by_rest : (get (happens c w e).names p ≡ Some (Status s)) ⊎ Stands (p, s) (refused_freely c hs (happens c w e)) → (get w.names p ≡ Some (Status s)) ⊎ Stands (p, s) (refused_freely c (Of e ∷ hs) w)
    by_rest (inl k) = by_first ((happens_names c w e (is_over w) p s).0 k)
    by_rest (inr k) = inr (stands_right (p, s) (refused_in w e (is_over w)) (refused_freely c hs (happens c w e)) k)
named-then c (Answered k status ∷ hs) w p s h = by_rest (named-then c hs (turned_away w status (slice_get w.requests k)) p s h)
  where
    by_rest : (get (turned_away w status (slice_get w.requests k)).names p ≡ Some (Status s)) ⊎ Stands (p, s) (refused_freely c (Answered k status ∷ hs) w) → (get w.names p ≡ Some (Status s)) ⊎ Stands (p, s) (refused_freely c (Answered k status ∷ hs) w)
    by_rest (inl n) = inl (answer-named w status p (Status s) (slice_get w.requests k) n)
    by_rest (inr n) = inr n

then-named : (c : Setup) (hs : List Happening) (w : World) (p s : ℕ) → Unnamed w → Stands (p, s) (refused_freely c hs w) → get (run_freely c hs w).names p ≡ Some (Status s)
then-named c [] w p s at h = none_stands h
then-named c (Of e ∷ hs) w p s at h = by_place (then-named c hs (happens c w e) p s next) (stands_split (p, s) (refused_in w e (is_over w)) (refused_freely c hs (happens c w e)) h)
  where
    next : Unnamed (happens c w e)
    next = unless Unnamed c w e (is_over w) at (unnamed_act c w e at)

    by_place : (Stands (p, s) (refused_freely c hs (happens c w e)) → get (run_freely c hs (happens c w e)).names p ≡ Some (Status s)) → Stands (p, s) (refused_in w e (is_over w)) ⊎ Stands (p, s) (refused_freely c hs (happens c w e)) → get (run_freely c hs (happens c w e)).names p ≡ Some (Status s)
    by_place rest (inl k) = stays-named c p (Status s) hs (happens c w e) next ((happens_names c w e (is_over w) p s).1 k)
    by_place rest (inr k) = rest k
then-named c (Answered k status ∷ hs) w p s at h = then-named c hs (turned_away w status (slice_get w.requests k)) p s (unnamed_answer w status (slice_get w.requests k) at) h

-- a status is named exactly if a reply refused a batch with it
pub names-refused : (c : Setup) (hs : List Happening) → NamesExactly (world_of c hs).names (refused_freely c hs (start c))
names-refused c hs p s = (λ h. at_start (named-then c hs (start c) p s h), λ h. then-named c hs (start c) p s (unnamed_begins c) h)
  where
    at_start : (get (start c).names p ≡ Some (Status s)) ⊎ Stands (p, s) (refused_freely c hs (start c)) → Stands (p, s) (refused_freely c hs (start c))
    at_start (inl h) = absurd (none-some (Status s) (sym (get-empty nat_cmp p) ∙ h))
    at_start (inr h) = h
