-- The machine that a world is, and what its parts keep.
use Rattle.std.specs.Prelude.{Bool, true, false}
use Rattle.rw_shard_core.specs.Configs.{choice_of}
use Rattle.rw_shard_core.specs.declared.config.ConfigFields.{ConfigFields}
use Rattle.rw_head.specs.declared.limits.Limits.{Limits}
use Rattle.rw_head.specs.Verdicts.{LabelLimits}
use Rattle.rw_machine.specs.Worlds.{Setup, World}
use Rattle.rw_machine.specs.declared.event.Event.{Event}
use Rattle.rw_machine.specs.declared.event.Event.TheVariants as event

-- what a world was set to, and what it has come to
pub record Machine : Type 0 where
  pub setup : Setup
  pub world : World

-- the label sets that a receiver takes
abbrev pub label_limits : Limits → LabelLimits
label_limits l = record { names = l.names; max_labels = l.max_labels; max_label_bytes = l.max_label_bytes }

-- a sender's configuration and a receiver's limits
abbrev pub setup_of : ConfigFields → Limits → Setup
setup_of c l = record {
  target = c.target;
  shards = c.shards;
  capacity = c.capacity;
  batch = c.batch;
  choice = choice_of c;
  limits = label_limits l;
  max_body = l.max_body_bytes;
  busy = l.busy_first;
}

-- only a Feed, a Place, a Freeze, a Send, an Arrive and a Restart may run out of memory
abbrev pub takes_memory : Event → Bool
takes_memory (event.Feed piece) = true
takes_memory event.Place = true
takes_memory (event.Freeze i) = true
takes_memory (event.Send i) = true
takes_memory (event.Arrive k how) = true
takes_memory event.Restart = true
takes_memory e = false
