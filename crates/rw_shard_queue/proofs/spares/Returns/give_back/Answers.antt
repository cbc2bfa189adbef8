use Rattle.std.proofs.Common.{◌∙◌, sym, ap}
use Rattle.rw_shard_queue.specs.inner.Spares.{empty_block}
use Rattle.rw_shard_queue.proofs.SparesLemmas.{gives_back}
use Rattle.rw_shard_queue.proofs.spares.Returns.give_back.Goals as goal

pub try_send_as-requires-clause-rule : goal.try_send_as-requires-clause-rule
try_send_as-requires-clause-rule g c = (gives_back _ _ _ _ (c.requires ∙ ap empty_block (sym c.self.view_is)) c.self.invariant.1, λ items views h at. tt)
