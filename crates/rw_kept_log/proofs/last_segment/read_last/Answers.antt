use Rattle.rw_kept_log.proofs.last_segment.read_last.Goals as goal

pub returns-clause-read : goal.returns-clause-read
returns-clause-read g c = record {
  found = record {
    fault_is = c.damage_in.ensures c.args.text.now c.in_ok-read.ensures.read.is_read.fault_is;
    cut = c.find_cut-cut.ensures.cut;
    refusal = c.find_cut-cut.ensures.damaged;
    torn_is = c.in_ok-torn.ensures;
    follows = c.find_after_fault-follows.ensures;
  };
  taken = c.in_ok-read.ensures.read.taken;
}
