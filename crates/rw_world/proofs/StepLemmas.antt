-- One event, and a whole schedule.
use Rattle.std.proofs.Common.{◌≡◌, ℕ, ◌+◌, ◌<◌, Bool, true, false, List, [], ◌∷◌, ◌++◌, length, take, get_or, Result, Ok, Err, OnOk, OnErr, refl, sym, ap, subst, ◌∙◌}
use Rattle.std.proofs.lemmas.List.{take_more}
use Rattle.rw_machine.specs.Worlds.{Setup, World, start, is_over}
use Rattle.rw_machine.specs.Steps.{act, unless_over, happens, run}
use Rattle.rw_machine.specs.Promises.{CanWork}
use Rattle.rw_machine.specs.declared.event.Event.{Event}
use Rattle.rw_machine.specs.declared.event.Event.TheVariants as event
use Rattle.rw_world.specs.Machine.{Machine}
use Rattle.rw_world.specs.inner.Machine.{is_arrive}
use Rattle.rw_world.specs.inner.Reached.{IsReached}
use Rattle.rw_machine.proofs.shared.Settles.{run_append}

stays : (c : Setup) (w : World) (e : Event) (b : Bool) → is_arrive e ≡ false → b ≡ true → unless_over c w e b ≡ w
stays c w (event.Arrive k how) b a o = absurd (cc)
stays c w e true a o = refl
stays c w e false a o = absurd (cc)

pub over_stays : (c : Setup) (w : World) (e : Event) → is_arrive e ≡ false → is_over w ≡ true → happens c w e ≡ w
over_stays c w e a o = stays c w e (is_over w) a o

arrives : (c : Setup) (w : World) (e : Event) (b : Bool) → is_arrive e ≡ true → unless_over c w e b ≡ act c w e
arrives c w (event.Arrive k how) b a = refl
arrives c w e b a = absurd (cc)

-- a request arrives whenever it does
pub arrive_acts : (c : Setup) (w : World) (e : Event) → is_arrive e ≡ true → happens c w e ≡ act c w e
arrive_acts c w e a = arrives c w e (is_over w) a

goes_on : (c : Setup) (w : World) (e : Event) (b : Bool) → b ≡ false → unless_over c w e b ≡ act c w e
goes_on c w (event.Arrive k how) b o = refl
goes_on c w e true o = absurd (cc)
goes_on c w e false o = refl

-- one more event
pub run_more : (c : Setup) (es : List Event) (w : World) (i : ℕ) (d : Event) → i < length es → run c (take (i + 1) es) w ≡ happens c (run c (take i es) w) (get_or es i d)
run_more c es w i d lt = ap (λ xs. run c xs w) (take_more es i d lt) ∙ run_append c (take i es) (get_or es i d ∷ []) w

-- a world with its events, and more of them
pub reached_more : (m m' : Machine) (es : List Event) → IsReached m → m' ≡ record m { world = run m.setup es m.world } → IsReached m'
reached_more m m' es r e =
    let setup : m'.setup ≡ m.setup = ap (λ (x : Machine). x.setup) e in
    let from : m'.world ≡ run m.setup (r.events ++ es) (start m.setup) = ap (λ (x : Machine). x.world) e ∙ ap (λ w. run m.setup es w) r.reached ∙ sym (run_append m.setup r.events es (start m.setup)) in
    record { can = subst CanWork (sym setup) r.can; events = r.events ++ es; reached = from ∙ ap (λ c. run c (r.events ++ es) (start c)) (sym setup) }

pub reached_same : (m m' : Machine) → IsReached m → m' ≡ m → IsReached m'
reached_same m m' r e = subst IsReached (sym e) r

pub reached_start : (m : Machine) (c : Setup) → m ≡ record { setup = c; world = start c } → CanWork m.setup → IsReached m
reached_start m c e can =
    let setup : m.setup ≡ c = ap (λ (x : Machine). x.setup) e in
    record { can = can; events = []; reached = ap (λ (x : Machine). x.world) e ∙ sym (ap start setup) }

pub reached_by : {X E : Type 0} (m m' : Machine) (e : Event) (r : Result X E) → IsReached m → OnOk r (m' ≡ record m { world = happens m.setup m.world e }) → OnErr r (m' ≡ m) → IsReached m'
reached_by m m' e (Ok x) i o n = reached_more m m' (e ∷ []) i o
reached_by m m' e (Err x) i o n = reached_same m m' i n
