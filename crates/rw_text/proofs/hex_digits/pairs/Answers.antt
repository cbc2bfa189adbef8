use Rattle.std.proofs.Common.{sym}
use Rattle.rw_text.proofs.HexPairLemmas.{high_taken, low_taken, other_passed, none_left, one_left}
use Rattle.rw_text.proofs.hex_digits.pairs.Goals as goal
use Rattle.rw_text.proofs.hex_digits.pairs.Goals.{in-Some+in-None, in-Some+in-Some-high+in_ok-push-in-Some-high, in_default}

pub loop-c-preserved : goal.loop-c-preserved
loop-c-preserved c =
    elim c.match-digit_value.branch [
      | in-Some+in-None w ↦
          rw (w.bytes-is, w.high-is)
          (high_taken _ _ _ _ (rw w.in-None.is at c.loop-c.invariant) c.loop-c-test.true (sym w.in-Some.ensures.value) w.in-Some.ensures.small)
      | in-Some+in-Some-high+in_ok-push-in-Some-high w ↦
          rw (w.bytes-is, w.high-is, w.in_ok-push-in-Some-high.ensures.items)
          (low_taken _ _ _ _ _ (rw w.in-Some-high.is at c.loop-c.invariant) c.loop-c-test.true (sym w.in-Some.ensures.value))
      | in_default w ↦
          rw (w.bytes-is, w.high-is) (other_passed _ _ _ _ c.loop-c.invariant c.loop-c-test.true (sym w.in_default.ensures.value))
    ]

pub returns-then-is_some : goal.returns-then-is_some
returns-then-is_some c = one_left _ _ _ _ c.loop-c.invariant c.loop-c-test.false (sym c.if-is_some.ensures)

pub returns : goal.returns
returns c = none_left _ _ _ _ c.loop-c.invariant c.loop-c-test.false (sym c.if-is_some.ensures)
