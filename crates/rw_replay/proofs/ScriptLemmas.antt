-- The records of a script can be written.
use Rattle.std.proofs.Common.{ℕ, List, [], ◌∷◌, sym, subst, inl, inr}
use Rattle.std.specs.List.{AllByRecursion}
use Rattle.rw_text.specs.RecordLines.{lines}
use Rattle.rw_replay.specs.ScriptText.{Order, logged, fed, arrives, bare, numbered, IsOrder}
use Rattle.rw_replay.specs.Scripts.{AreOrders, IsScript}
use Rattle.rw_replay.specs.inner.Played.{IsWritable}
use Rattle.rw_log_commands.proofs.shared.FillingLemmas.{record_some}

order_writable : (line : List ℕ) (o : Order) → IsOrder line o → IsWritable o
order_writable line (logged rec) (inl (is_bare, e)) = absurd is_bare
order_writable line (logged rec) (inr (word, rest, parts, both)) = (record_some rest rec both.1, both.1.short)
order_writable line (fed bytes) h = tt
order_writable line (arrives request how) h = tt
order_writable line (bare word) h = tt
order_writable line (numbered word number) h = tt

all_writable : (ls : List (List ℕ)) (orders : List Order) → AreOrders ls orders → AllByRecursion IsWritable orders
all_writable [] orders h = subst (AllByRecursion IsWritable) (sym h) tt
all_writable ([] ∷ ls) orders h = all_writable ls orders h
all_writable ((b ∷ bs) ∷ ls) [] h = tt
all_writable ((b ∷ bs) ∷ ls) (o ∷ orders) h = (order_writable (b ∷ bs) o h.0, all_writable ls orders h.1)

pub script_writable : (text : List ℕ) (orders : List Order) → IsScript text orders → AllByRecursion IsWritable orders
script_writable text orders h = all_writable (lines text) orders h.are_orders
