use Rattle.std.proofs.Common.{◌≡◌, ◌==◌, false, ne_eqb}
use Rattle.std.proofs.lemmas.List.{take_all}
use Rattle.std.proofs.lemmas.List.Elements.{All-more}
use Rattle.rw_text.proofs.shared.SplitLemmas.{not_without}
use Rattle.rw_text.proofs.bytes.split_at_byte.Goals as goal

pub loop-i-preserved : goal.loop-i-preserved
loop-i-preserved c = All-more (λ b. (b == c.args.byte) ≡ false) c.args.text.now c.loop-i.i 0 c.loop-i-test.true c.loop-i.invariant (ne_eqb _ _ c.if-b-byte.false)

pub returns : goal.returns
returns c = λ front rest. not_without c.args.byte c.args.text.now front rest (rw (take_all c.loop-i.i c.args.text.now c.loop-i-test.false) at c.loop-i.invariant)
