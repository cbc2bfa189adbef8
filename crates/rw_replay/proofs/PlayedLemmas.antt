-- Lines of a script are carried out.
use Rattle.std.proofs.Common.{◌≡◌, inr, ℕ, List, [], ◌∷◌, map, Some, refl, sym, ap, ◌∙◌, subst}
use Rattle.std.specs.List.{AllByRecursion}
use Rattle.rw_machine.specs.Worlds.{report}
use Rattle.rw_shard_core.specs.Endings.{Ending}
use Rattle.rw_machine.specs.Steps.{happens}
use Rattle.rw_machine.specs.declared.event.Event.{Event}
use Rattle.rw_machine.specs.declared.event.Event.TheVariants as event
use Rattle.rw_wal_tail.specs.declared.piece.Piece.TheVariants as piece
use Rattle.rw_replay.specs.declared.command.Command.{Command}
use Rattle.rw_replay.specs.declared.command.Command.TheVariants as command
use Rattle.rw_replay.specs.ScriptText.{Order, fed, order_of, order_of_event}
use Rattle.rw_world.specs.Machine.{Machine}
use Rattle.rw_replay.specs.Played.{Played, next_segment, settled_after, FeedsOrders, Plays, Follows}
use Rattle.rw_replay.specs.inner.Played.{IsWritable}

-- the machine after one event
abbrev pub HasHappened : Played → Event → Machine → Type 0
HasHappened p e m = m ≡ record p.machine { world = happens p.machine.setup p.machine.world e }

-- another machine, with as much written
abbrev pub on_machine : Played → Machine → Played
on_machine p m = record p { machine = m }

pub settled : (p : Played) (m : Machine) (e : Ending) (rounds : ℕ) → m ≡ record p.machine { world = settled_after p rounds } → report m.world ≡ Some e → Plays p (order_of command.Settle) (on_machine p m)
settled p m e rounds h ended = inr (refl, (rounds, e, ap (λ (n : Machine). report n.world) (sym h) ∙ ended, ap (on_machine p) h))

-- bytes are fed
pub bytes_fed : (p : Played) (m : Machine) (e : Event) (bytes : List ℕ) (offset : ℕ) → order_of_event e ≡ fed bytes → HasHappened p e m
    → FeedsOrders p (fed bytes ∷ []) offset (record { machine = m; offset = offset })
bytes_fed p m e bytes offset is h = (e ∷ [], ap (λ (o : Order). o ∷ []) is, ap (λ (n : Machine). record { machine = n; offset = offset }) h)

-- a next segment, and then the bytes
pub segment_fed : (p : Played) (m : Machine) (orders : List Order) (offset : ℕ) (q : Played) → HasHappened p (event.Feed piece.NextSegment) m → FeedsOrders (on_machine p m) orders offset q
    → FeedsOrders p (next_segment ∷ orders) offset q
segment_fed p m orders offset q h f =
    let there : FeedsOrders (on_machine p (record p.machine { world = happens p.machine.setup p.machine.world (event.Feed piece.NextSegment) })) orders offset q =
    subst (λ (n : Machine). FeedsOrders (on_machine p n) orders offset q) h f in
    (event.Feed piece.NextSegment ∷ there.0, ap (λ (os : List Order). next_segment ∷ os) there.1, there.2)

pub same_fed : (p q : Played) (bytes other : List ℕ) (offset end : ℕ) → bytes ≡ other → offset ≡ end → FeedsOrders p (fed bytes ∷ []) offset q → FeedsOrders p (fed other ∷ []) end q
same_fed p q bytes other offset end e f h = subst (λ (n : ℕ). FeedsOrders p (fed other ∷ []) n q) f (subst (λ (t : List ℕ). FeedsOrders p (fed t ∷ []) offset q) e h)

-- ---- line by line

-- whatever the lines that are left lead to, all lines lead to
pub record Playing (start : Played) (all left : List Order) (now : Played) : Type 0 where
  pub goes_on : (last : Played) → Follows now left last → Follows start all last
  pub writable : AllByRecursion IsWritable left

pub playing_more : (start now next : Played) (all : List Order) (items more : List Command) (x : Command) → Playing start all (map order_of items) now → items ≡ x ∷ more → Plays now (order_of x) next
    → Playing start all (map order_of more) next
playing_more start now next all items more x h e played =
    let here : Playing start all (order_of x ∷ map order_of more) now = subst (λ (xs : List Command). Playing start all (map order_of xs) now) e h in
    record { goes_on = λ last f. here.goes_on last (next, played, f); writable = here.writable.1 }
