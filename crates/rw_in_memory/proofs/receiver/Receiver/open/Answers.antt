use Rattle.std.proofs.Common.{◌≡◌, [], ap}
use Rattle.rw_recv_head.specs.Seats.{Seated}
use Rattle.rw_in_memory.proofs.ShippedLemmas.{all_of}
use Rattle.rw_in_memory.proofs.receiver.Receiver.open.Goals as goal

pub returns-in-Ok-clause-unasked : goal.returns-in-Ok-clause-unasked
returns-in-Ok-clause-unasked g c = all_of (λ (s : Seated). s.asked ≡ []) c.in-Ok.seats.items (λ k s at. ap (λ (x : Seated). x.asked) (c.in-Ok.ensures.numbered k s at))
