use Rattle.rw_kept_log.proofs.shared.HoldLemmas.{put_none, put_next, put_rest}
use Rattle.rw_kept_log.proofs.records.put_samples.Goals as goal

pub loop-rest-init : goal.loop-rest-init
loop-rest-init c = put_none c.args.writer.now c.args.samples.now

pub loop-rest-preserved : goal.loop-rest-preserved
loop-rest-preserved c =
    put_next c.args.writer.now c.loop-rest.writer c.put_part.new.writer c.args.samples.now c.loop-rest.rest.now c.split_at.result.0.now c.split_at.result.1.now 500000
    c.loop-rest.invariant c.split_at.ensures.front c.split_at.ensures.back c.in_ok-put_part.ensures

pub returns : goal.returns
returns c = put_rest c.args.writer.now c.loop-rest.writer c.put_last.new.writer c.args.samples.now c.loop-rest.rest.now c.loop-rest.invariant c.in_ok-put_last.ensures
