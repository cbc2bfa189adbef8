use Rattle.std.proofs.Common.{w64, sym, ◌∙◌}
use Rattle.std.proofs.lemmas.Int.{to_z-of_z}
use Rattle.rw_kept_log.proofs.OldLemmas.{old_found}
use Rattle.rw_kept_log.proofs.old_segments.read_old.Goals as goal

pub returns : goal.returns
returns c =
    old_found c.args.floor c.read_segment.new.sink.floor c.args.text.now c.new-aged.result.taken c.read_segment.new.sink.taken c.in_ok-read.read c.into_old.result
    c.new-aged.ensures.taken c.in_ok-read.ensures.read (sym c.is_some.ensures ∙ c.if-is_some.false) (c.in_ok-read.ensures.fixed ∙ c.new-aged.ensures.floor ∙ to_z-of_z w64 c.args.floor c.ranges.floor) c.into_old.ensures
