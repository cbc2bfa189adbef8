-- The configuration of a sender.
use Rattle.std.specs.Prelude.{Bool, false, ◌&&◌, nat_le, [], codes}
use Rattle.rw_types.specs.declared.names.Names.TheVariants.{Legacy}
use Rattle.rw_relabel.specs.declared.choice.Choice.{Choice}
use Rattle.rw_shard_core.specs.declared.config.ConfigFields.{ConfigFields}

-- the shards at the start, and the least and the most backoff, are between their bounds
abbrev pub is_ordered : ConfigFields → Bool
is_ordered c =
    (nat_le c.min_shards c.shards && nat_le c.shards c.max_shards) && nat_le c.min_backoff_ms c.max_backoff_ms

-- the configuration of a sender that is given no other
abbrev pub standard : ConfigFields
standard = record {
  target = record { host = codes "localhost:9090"; path = codes "/api/v1/write" };
  shards = 1;
  min_shards = 1;
  max_shards = 50;
  capacity = 10000;
  batch = 2000;
  min_backoff_ms = 30;
  max_backoff_ms = 5000;
  timeout_ms = 30000;
  names = Legacy;
  snappy = false;
  rules = [];
}

-- which series are sent: by their names and by the rules
abbrev pub choice_of : ConfigFields → Choice
choice_of c = record { names = c.names; rules = c.rules }
