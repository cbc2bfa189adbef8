use Rattle.std.proofs.Common.{◌≡◌, ◌==◌, All, take, false}
use Rattle.rw_text.proofs.bytes.split_at_byte.Given as goal

abbrev pub invariant-loop-i : goal.invariant-loop-i
invariant-loop-i l = All (λ b. (b == l.byte) ≡ false) (take l.i l.text)
