use Rattle.std.proofs.Common.{length}
use Rattle.rw_text.proofs.EscapeLemmas.{Inside}
use Rattle.rw_text.proofs.quotes.read_quoted.Given as goal

abbrev pub invariant-loop-byte : goal.invariant-loop-byte
invariant-loop-byte l = Inside l.text l.out.items l.rest

abbrev pub decreases-loop-byte : goal.decreases-loop-byte
decreases-loop-byte l = length l.rest
