use Rattle.rw_text.proofs.HexPairLemmas.{HasRead}
use Rattle.rw_text.proofs.hex_digits.pairs.Given as goal

abbrev pub invariant-loop-c : goal.invariant-loop-c
invariant-loop-c l = HasRead l.text l.c-index l.bytes.items l.high
