use Rattle.std.proofs.Common.{arith}
use Rattle.std.proofs.lemmas.List.{length-map, get_or_default}
use Rattle.rw_settings.specs.inner.Keys.{row_of}
use Rattle.rw_settings.proofs.LineLemmas.{line_pushed, all_pushed}
use Rattle.rw_settings.proofs.printed_values.push_lines.Goals as goal

pub loop-i-preserved : goal.loop-i-preserved
loop-i-preserved c =
    line_pushed c.args.keys.now c.args.values.now _ _ _ _ _ _ (omega (arith, length-map c.args.keys.now row_of, c.requires)) (omega arith) (get_or_default c.args.keys.now c.loop-i.i _ _ (omega (arith, length-map c.args.keys.now row_of, c.requires))) c.index-values-i.is
    c.in_ok-push_shown.ensures c.loop-i.invariant

pub returns : goal.returns
returns c = all_pushed c.args.keys.now c.args.values.now c.loop-i.i _ _ (omega arith) c.loop-i.invariant
