use Rattle.std.proofs.Common.{rules, sym}
use Rattle.rw_text.proofs.EscapeLemmas.{flat_map-escaped-plain}
use Rattle.rw_text.proofs.print.put_bytes.Goals as goal

pub returns-then-is_plain_text-clause-ok : goal.returns-then-is_plain_text-clause-ok
returns-then-is_plain_text-clause-ok c = rw (flat_map-escaped-plain c.args.text.now (sym (c.if-is_plain_text.ensures))) (search rules)
