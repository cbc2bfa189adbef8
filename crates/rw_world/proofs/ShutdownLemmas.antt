-- Rounds of an orderly shutdown until there is a report.
use Rattle.std.proofs.Common.{◌≡◌, ℕ, Result, Ok, Err, OnOk, suc, zero, ◌+◌, ◌≤◌, Bool, true, false, List, refl, sym, ap, subst, ◌∙◌, arith}
use Rattle.rw_machine.specs.Worlds.{Setup, World, start, is_over}
use Rattle.rw_machine.specs.Steps.{unless_over, happens, run}
use Rattle.rw_machine.specs.Settling.{next_events, settle_if, settle_world, settle_events}
use Rattle.rw_machine.specs.Promises.{CanWork, IsSettled, SettleEnds}
use Rattle.rw_machine.specs.declared.event.Event.{Event}
use Rattle.rw_machine.specs.declared.event.Event.TheVariants as event
use Rattle.rw_world.specs.Machine.{Machine}
use Rattle.rw_world.specs.inner.Reached.{IsReached}
use Rattle.rw_world.specs.Rounds.{HasShutDown}
use Rattle.rw_world.specs.inner.Rounds.{HasSettled}
use Rattle.rw_world.proofs.StepLemmas.{reached_more}

none_played : (c : Setup) (w : World) (b : Bool) → settle_if c zero w b ≡ w
none_played c w true = refl
none_played c w false = refl

played_more : (c : Setup) (n : ℕ) (w : World) (b : Bool) → b ≡ is_over w → is_over (settle_if c n w b) ≡ false → settle_if c (suc n) w b ≡ run c (next_events c (settle_if c n w b)) (settle_if c n w b)
played_more c n w true e o = absurd (cc)
played_more c zero w false e o = none_played c (run c (next_events c w) w) (is_over (run c (next_events c w) w))
played_more c (suc n) w false e o = played_more c n (run c (next_events c w) w) (is_over (run c (next_events c w) w)) refl o

-- one more round
settle_more : (c : Setup) (n : ℕ) (w : World) → is_over (settle_world c n w) ≡ false → settle_world c (suc n) w ≡ run c (next_events c (settle_world c n w)) (settle_world c n w)
settle_more c n w o = played_more c n (happens c w event.Close) (is_over (happens c w event.Close)) refl o

pub settled_none : (m m' : Machine) → m' ≡ record m { world = happens m.setup m.world event.Close } → HasSettled m m'
settled_none m m' e = record { rounds = 0; settled = e ∙ ap (λ w. record m { world = w }) (sym (none_played m.setup (happens m.setup m.world event.Close) (is_over (happens m.setup m.world event.Close)))) }

pub settled_more : (m m' m'' : Machine) → HasSettled m m' → is_over m'.world ≡ false → m'' ≡ record m' { world = run m'.setup (next_events m'.setup m'.world) m'.world } → HasSettled m m''
settled_more m m' m'' h o e =
    let w : World = settle_world m.setup h.rounds m.world in
    let going : is_over w ≡ false = ap (λ (x : Machine). is_over x.world) (sym h.settled) ∙ o in
    record {
      rounds = suc h.rounds;
      settled = e ∙ ap (λ (x : Machine). record x { world = run x.setup (next_events x.setup x.world) x.world }) h.settled ∙ ap (λ v. record m { world = v }) (sym (settle_more m.setup h.rounds m.world going));
    }

pub settled_same : (m m' m'' : Machine) → HasSettled m m' → m'' ≡ m' → HasSettled m m''
settled_same m m' m'' h e = record { rounds = h.rounds; settled = e ∙ h.settled }

over_stays : (c : Setup) (k n : ℕ) (w : World) (b : Bool) → b ≡ is_over w → is_over (settle_if c n w b) ≡ true → settle_if c (k + n) w b ≡ settle_if c n w b
over_stays c k n w true e o = refl
over_stays c k zero w false e o = absurd (cc)
over_stays c k (suc n) w false e o =
    ap (λ m. settle_if c m w false) (let z : k + suc n ≡ suc (k + n) = omega arith in z)
    ∙ over_stays c k n (run c (next_events c w) w) (is_over (run c (next_events c w) w)) refl o

-- more rounds change nothing once there is a report
settle_stays : (c : Setup) (k n : ℕ) (w : World) → is_over (settle_world c n w) ≡ true → settle_world c (k + n) w ≡ settle_world c n w
settle_stays c k n w o = over_stays c k n (happens c w event.Close) (is_over (happens c w event.Close)) refl o

settled_after : (c : Setup) (n : ℕ) (w : World) → SettleEnds c w → is_over (settle_world c n w) ≡ true → IsSettled c w (settle_world c n w)
settled_after c n w ends o =
    let le : ends.0 ≤ ends.0 + n = omega arith in
    subst (IsSettled c w) (settle_stays c ends.0 n w o) (ends.1 (ends.0 + n) le).0

-- rounds that came to a report have settled it all
pub settled_all : (m m' : Machine) → HasSettled m m' → SettleEnds m.setup m.world → is_over m'.world ≡ true → IsSettled m.setup m.world m'.world
settled_all m m' h ends o =
    let is : m'.world ≡ settle_world m.setup h.rounds m.world = ap (λ (x : Machine). x.world) h.settled in
    subst (IsSettled m.setup m.world) (sym is) (settled_after m.setup h.rounds m.world ends (ap is_over (sym is) ∙ o))

-- an orderly shutdown is a schedule
pub shut_down : (m m' : Machine) → HasSettled m m' → ((c : Setup) (n : ℕ) (w : World) → settle_world c n w ≡ run c (settle_events c n w) w) → HasShutDown m m'
shut_down m m' h runs = record { rounds = h.rounds; settled = h.settled; scheduled = h.settled ∙ ap (λ w. record m { world = w }) (runs m.setup h.rounds m.world) }

pub reached_shut : (m m' : Machine) → IsReached m → HasShutDown m m' → IsReached m'
reached_shut m m' r h = reached_more m m' (settle_events m.setup h.rounds m.world) r h.scheduled

-- once there is a report it changes nothing
settle_over : (c : Setup) (n : ℕ) (w : World) → is_over w ≡ true → settle_world c n w ≡ w
settle_over c n w o = ap (λ v. settle_if c n v (is_over v)) (ap (unless_over c w event.Close) o) ∙ ap (settle_if c n w) o

pub shut_stays : (m m' : Machine) → HasSettled m m' → is_over m.world ≡ true → m' ≡ m
shut_stays m m' h o = h.settled ∙ ap (λ w. record m { world = w }) (settle_over m.setup h.rounds m.world o)

pub shut_all : {X E : Type 0} (m m' : Machine) (r : Result X E) → IsReached m → HasSettled m m' → ((c : Setup) (es : List Event) → CanWork c → SettleEnds c (run c es (start c))) → OnOk r (is_over m'.world ≡ true) → OnOk r (IsSettled m.setup m.world m'.world)
shut_all m m' (Ok x) i h ends o = settled_all m m' h (subst (SettleEnds m.setup) (sym i.reached) (ends m.setup i.events i.can)) o
shut_all m m' (Err x) i h ends o = tt
