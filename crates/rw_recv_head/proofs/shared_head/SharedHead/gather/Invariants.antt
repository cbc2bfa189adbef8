use Rattle.std.proofs.Common.{◌≡◌, ◌+◌, ◌++◌, length, sum_by}
use Rattle.std.specs.Vec.Iter.{into_iter_items, into_iter_len}
use Rattle.rw_recv_head.specs.Seats.{Seated}
use Rattle.rw_recv_head.proofs.GatheringLemmas.{AreBack}
use Rattle.rw_recv_head.proofs.shared_head.SharedHead.gather.Given as goal

abbrev pub invariant-loop-seat : goal.invariant-loop-seat
invariant-loop-seat g l = record {
  parts : l.rest.parts ≡ length l.yielded + 1;
  amount : l.rest.amount ≡ l.initial.rest.amount + sum_by (λ (s : Seated). s.stored) l.yielded;
  asked : l.questions.asked ≡ l.initial.questions.asked;
  given : l.questions.given ≡ l.initial.questions.given;
  left : l.fn.seats.items ≡ l.yielded ++ into_iter_items l.seat-iterator;
  counted : into_iter_len l.seat-iterator ≡ length (into_iter_items l.seat-iterator);
  back : AreBack l.questions l.yielded;
}
