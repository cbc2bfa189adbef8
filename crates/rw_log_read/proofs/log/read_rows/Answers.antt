use Rattle.std.proofs.Common.{◌∙◌, ap}
use Rattle.rw_log_read.proofs.shared.LogLemmas.{begun_is, reads_into, taken_none}
use Rattle.rw_log_read.proofs.log.read_rows.Goals as goal

pub read_all-requires : goal.read_all-requires
read_all-requires g c = taken_none _ _ _ _ c.in_ok-tail.ensures (ap g.T.Taker.taken c.new-counting.ensures ∙ c.requires) c.new-rows.ensures.items

pub returns-clause-ok : goal.returns-clause-ok
returns-clause-ok g c = λ start begins.
    reads_into _ _ _ _ _ _ _ _ _ _ _ _ _ (begun_is _ _ c.in_ok-tail.ensures) c.in_ok-fault.ensures.ok (ap g.T.Taker.taken c.into_taker.ensures) c.damage_of.ensures start begins
