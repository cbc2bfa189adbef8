use Rattle.std.proofs.Common.{◌≡◌, length, take}
use Rattle.rw_write_request.specs.Canon.{canon}
use Rattle.rw_write_request.proofs.lengths.all_series_len.Given as goal

abbrev pub invariant-loop-s : goal.invariant-loop-s
invariant-loop-s l = l.total ≡ length (canon (take l.s-index l.list))
