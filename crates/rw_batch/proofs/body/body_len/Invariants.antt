use Rattle.std.proofs.Common.{◌≡◌, length, take}
use Rattle.rw_write_request.specs.Canon.{canon}
use Rattle.rw_batch.specs.Grouping.{message}
use Rattle.rw_batch.proofs.body.body_len.Given as goal

abbrev pub invariant-loop-place : goal.invariant-loop-place
invariant-loop-place l = l.total ≡ length (canon (take l.place (message l.rows.samples)))
