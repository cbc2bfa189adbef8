use Rattle.std.proofs.Common.{◌≡◌, length, take}
use Rattle.rw_write_request.specs.Canon.{sample_fields}
use Rattle.rw_write_request.proofs.lengths.sample_fields_len.Given as goal

abbrev pub invariant-loop-word : goal.invariant-loop-word
invariant-loop-word l = l.total ≡ length (sample_fields (take l.word-index l.samples))
