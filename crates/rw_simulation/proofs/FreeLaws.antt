-- The laws of the machine whose receiver is free.
use Rattle.std.proofs.Common.{ℕ, List, [], Option, Some, None, slice_get}
use Rattle.rw_machine.specs.Worlds.{Setup, Request, World, start, log}
use Rattle.rw_machine.specs.Steps.{turned_away}
use Rattle.rw_machine.proofs.shared.Counts.{Count, count_act, count_start}
use Rattle.rw_machine.proofs.shared.Lists.{all_act, all_start}
use Rattle.rw_machine.proofs.shared.Lists as lists
use Rattle.rw_machine.proofs.shared.Ids.{Ids, act_ids, ids_start}
use Rattle.rw_machine.proofs.shared.Requests.{Carries, act_carries, carries_start, carries_is, same_bytes}
use Rattle.rw_machine.proofs.shared.Classes.{Classes, classes_act, classes_at, accounted, not_below}
use Rattle.rw_simulation.specs.Freely.{Happening, run_freely}
use Rattle.rw_simulation.specs.FreeLaws.{KeepsLaws, world_of}
use Rattle.rw_simulation.proofs.FreeNames.{always_freely, names-refused}

count_answer : (c : Setup) (w : World) (status : ℕ) (o : Option Request) → Count c w → Count c (turned_away w status o)
count_answer c w status None at = at
count_answer c w status (Some r) at = record { placed_in = at.placed_in; is = at.is }

lists_answer : (c : Setup) (w : World) (status : ℕ) (o : Option Request) → lists.All c w → lists.All c (turned_away w status o)
lists_answer c w status None at = at
lists_answer c w status (Some r) at = at

ids_answer : (w : World) (status : ℕ) (o : Option Request) → Ids w → Ids (turned_away w status o)
ids_answer w status None at = at
ids_answer w status (Some r) at = at

carries_answer : (c : Setup) (w : World) (status : ℕ) (o : Option Request) → Carries c w → Carries c (turned_away w status o)
carries_answer c w status None at = at
carries_answer c w status (Some r) at = at

classes_answer : (c : Setup) (w : World) (status : ℕ) (o : Option Request) → Classes c w → Classes c (turned_away w status o)
classes_answer c w status None at = at
classes_answer c w status (Some r) at = record { placed_in = at.placed_in; below = at.below; above = at.above; kept = at.kept }

-- the lists of the shards, from wherever they are kept
pub keeps-lists : (c : Setup) (hs : List Happening) (w : World) → lists.All c w → lists.All c (run_freely c hs w)
keeps-lists c = always_freely (lists.All c) c (all_act c) (lists_answer c)

pub keeps-laws : (c : Setup) (hs : List Happening) → KeepsLaws c hs
keeps-laws c hs =
    let w = world_of c hs in
    let cs = always_freely (Classes c) c (classes_act c) (classes_answer c) hs (start c) (classes_at c []) in
    let one = (always_freely Ids c (act_ids c) ids_answer hs (start c) (ids_start c)).one in
    let carried = always_freely (Carries c) c (act_carries c) (carries_answer c) hs (start c) (carries_start c) in record {
      classes = λ p. (λ lt. accounted c w p (slice_get (log w) p) (cs.below p lt), λ h. cs.above p (not_below p w.placed h));
      filtered = (always_freely (Count c) c (count_act c) (count_answer c) hs (start c) (count_start c)).is;
      refusals = names-refused c hs;
      one_batch = one;
      bytes = carries_is c w carried;
      again = same_bytes c w carried one;
      lists = λ i s e. let h = keeps-lists c hs (start c) (all_start c) i s e in (h.queued, h.held, h.within);
    }
