-- Inner definitions beside those of Held.antt: only invariants, private functions and
-- proofs use them.
use Rattle.std.specs.Prelude.{◌≡◌, ℕ, ℤ, ◌+◌, ◌≤◌, ◌^◌, List, length, map, Bool, false, All, IfSome}
use Rattle.rw_types.specs.Labels.{Labels}
use Rattle.rw_plain_queue.specs.Items.{Placed, samples_in}
use Rattle.rw_plain_queue.specs.Queue.{Queue, put_in}
use Rattle.rw_plain_queue.specs.declared.item.Item.{Item}
use Rattle.rw_plain_queue.specs.declared.item.Item.TheVariants.{Sample, Flush, End}
use Rattle.rw_shard_core.specs.Shard.{Core, AreInRow, last_sample}
use Rattle.rw_machine.specs.Shards.{Shard, Queued, One, FlushMark, EndMark}
use Rattle.rw_world.specs.Held.{Held}

-- an item of a queue, as the machine has it
abbrev pub queued_of : Item → Queued
queued_of (Sample place t word labels) = One (record { place = place; t = t; word = word; labels = labels.value })
queued_of Flush = FlushMark
queued_of (End kind) = EndMark kind

-- a queue, whether its End was put, and a core
abbrev pub held_of : Queue → Bool → Core → Held
held_of q end_put c = record {
  capacity = q.capacity;
  shard = record { put = samples_in (put_in q); queue = map queued_of q.items; end_put = end_put; core = c };
}

-- how many samples it is
abbrev pub samples_of : Queued → ℕ
samples_of (One x) = 1
samples_of FlushMark = 0
samples_of (EndMark kind) = 0

-- the sample that a shard is given next
abbrev pub sample_for : Shard → ℕ → ℕ → ℤ → ℕ → Labels → Placed
sample_for s pos series t word l = record {
  place = record { epoch = s.core.epoch; shard = s.core.shard; seq = length s.put; pos = pos; series = series };
  t = t;
  word = word;
  labels = l;
}

-- each sample names this shard of this epoch
abbrev pub AreNamed : Core → List Placed → Type 0
AreNamed c xs = All (λ (x : Placed). (x.place.epoch ≡ c.epoch) × (x.place.shard ≡ c.shard)) xs

-- the last of this many samples has the number before theirs
abbrev pub IsCounted : List Placed → Type 0
IsCounted xs = IfSome (last_sample xs) (λ (y : Placed). y.place.seq + 1 ≡ length xs)

-- The core has taken what was taken out of the queue, and what was put is one sequence of this
-- shard's samples.
pub record IsShard (q : Queue) (c : Core) (count taken : ℕ) : Type 0 where
  pub not_closed : q.closed ≡ false
  pub not_killed : q.killed ≡ false
  pub alive : c.killed ≡ false
  pub taken_is : samples_in q.taken ≡ c.taken
  pub counted : count ≡ length (samples_in (put_in q))
  pub counted_taken : taken ≡ length c.taken
  pub few : count ≤ 2 ^ 60
  pub named : AreNamed c (samples_in (put_in q))
  pub in_row : AreInRow (samples_in (put_in q))
  pub numbered : IsCounted (samples_in (put_in q))
