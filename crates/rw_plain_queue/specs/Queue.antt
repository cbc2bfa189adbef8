-- A queue: what was taken out of it and what it holds.
use Rattle.std.specs.Prelude.{ℕ, List, [], ◌∷◌, ◌++◌, length, Bool, ◌||◌, nat_lt, Option, None, Some, if◌then◌else◌}
use Rattle.rw_plain_queue.specs.declared.item.Item.{Item}
use Rattle.rw_plain_queue.specs.declared.plain.PutFault.{PutFault}
use Rattle.rw_plain_queue.specs.declared.plain.PutFault.TheVariants.{Full, Closed}

pub record Queue : Type 0 where
  pub taken : List Item
  pub items : List Item
  pub capacity : ℕ
  pub closed : Bool
  pub killed : Bool

-- what was put, oldest first
abbrev pub put_in : Queue → List Item
put_in q = q.taken ++ q.items

-- why nothing can be put
abbrev pub put_refusal : Queue → Option PutFault
put_refusal q = if q.closed || q.killed then Some Closed else if nat_lt (length q.items) q.capacity then None else Some Full

abbrev pub front : List Item → Option Item
front [] = None
front (x ∷ xs) = Some x

-- what is taken next: the front, or nothing from a killed queue
abbrev pub next_item : Queue → Option Item
next_item q = if q.killed then None else front q.items

abbrev pub without_front : List Item → Queue → Queue
without_front [] q = q
without_front (x ∷ xs) q = record q { taken = q.taken ++ x ∷ []; items = xs }

abbrev pub after_take : Queue → Queue
after_take q = if q.killed then q else without_front q.items q
