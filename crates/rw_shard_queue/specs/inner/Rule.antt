-- Inner definitions beside those of Rule.antt: only invariants, private functions and
-- proofs use them.
use Rattle.std.specs.Prelude.{◌≡◌, ℕ, ◌≤◌, ◌<◌, ◌+◌, ◌*◌, true, false, List, [], ◌∷◌, ◌++◌, length, ⊤}
use mathlib.Core.Option.{some}
use lib.ListN.{get_elem?}
use Rattle.rw_plain_queue.specs.declared.item.Item.{Item}
use Rattle.rw_shard_queue.specs.declared.rule.Log.{Log}
use Rattle.rw_shard_queue.specs.declared.rule.Name.{Name}
use Rattle.rw_plain_queue.specs.History.{IsHistory, EndIsLast}
use Rattle.rw_shard_queue.specs.Rule.{Filled}

-- the items of these blocks, in order
abbrev pub joined : List Filled → List Item
joined [] = []
joined (b ∷ bs) = b.items ++ joined bs

-- each block has an item, and room for this many
abbrev pub AreBlocks : ℕ → List Filled → Type 0
AreBlocks most [] = ⊤
AreBlocks most (b ∷ bs) = (0 < length b.items) × (length b.items ≤ most) × (b.most ≡ most) × AreBlocks most bs

abbrev pub both : Name → List Item → List Item → Log
both name put taken = record { feeds = true; drains = true; name = name; put = put; taken = taken }

abbrev pub feeder : Name → List Item → Log
feeder name put = record { feeds = true; drains = false; name = name; put = put; taken = [] }

abbrev pub drainer : Name → List Item → Log
drainer name taken = record { feeds = false; drains = true; name = name; put = []; taken = taken }

abbrev pub name_of : ℕ → ℕ → ℕ → ℕ → ℕ → Name
name_of epoch shard capacity slots most = record { epoch = epoch; shard = shard; capacity = capacity; slots = slots; most = most }

abbrev pub no_name : Name
no_name = name_of 0 0 0 0 0

-- the items are a history of the shard that the queue is named for
abbrev pub IsNamed : Name → List Item → Type 0
IsNamed name items = IsHistory name.epoch name.shard items

-- both ends of a queue that has no name yet
abbrev pub unnamed : Log
unnamed = both no_name [] []

abbrev pub nobody : Log
nobody = record { feeds = false; drains = false; name = no_name; put = []; taken = [] }

abbrev pub Fits : ℕ → ℕ → Name → List Item → List Item → ℕ → Log → Type 0
Fits writer reader name put taken port v =
    (v.feeds ≡ true → (port ≡ writer) × (v.name ≡ name) × (v.put ≡ put))
    × (v.drains ≡ true → (port ≡ reader) × (v.name ≡ name) × (v.taken ≡ taken))

-- what was handed over is what was received and then what the blocks of the channel hold
pub record IsRelayed (blocks : List Filled) (views : List Log) : Type 0 where
  pub writer : ℕ
  pub reader : ℕ
  pub name : Name
  pub put : List Item
  pub taken : List Item
  pub split : put ≡ taken ++ joined blocks
  pub within : length blocks ≤ name.slots
  pub sized : AreBlocks name.most blocks
  pub history : IsHistory name.epoch name.shard put
  pub fits : (port : ℕ) (v : Log) → get_elem? views port ≡ some v → Fits writer reader name put taken port v

-- the items of the block join what was handed over, and an empty block is in its place
abbrev pub HandsOver : Log → Log → List Item → List Item → Type 0
HandsOver v w held left = (w ≡ feeder v.name (v.put ++ held)) × (left ≡ [])

-- the items of the block join what was taken, which still is a history of the queue; there is at
-- least one, and no more than a block may have, and the block has room for these
abbrev pub Took : Log → Filled → Log → Type 0
Took v x w = (w ≡ drainer v.name (v.taken ++ x.items)) × IsHistory v.name.epoch v.name.shard (v.taken ++ x.items) × (0 < length x.items) × (length x.items ≤ v.name.most) × (x.most ≡ v.name.most)

-- what was put is what was taken and then these, no more than the channel holds, and an End was put
-- last
abbrev pub Remains : Log → List Filled → Type 0
Remains v blocks = (v.put ≡ v.taken ++ joined blocks) × EndIsLast v.put × (length (joined blocks) ≤ v.name.slots * v.name.most)

-- the blocks of the channel, and one that is short of an item at each end, fit the queue
abbrev pub IsRoomy : Name → Type 0
IsRoomy name = (0 < name.most) × (0 < name.slots) × (name.slots * name.most + 2 * name.most ≤ name.capacity + 2)
