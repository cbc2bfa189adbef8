use Rattle.rw_shard_queue.proofs.ends.open.Given as goal

abbrev pub ghosts-open_named : goal.ghosts-open_named
ghosts-open_named a = record { name = record { epoch = a.epoch; shard = a.shard; capacity = a.capacity; slots = a.slots; most = a.most } }
