use Rattle.std.proofs.Common.{◌≡◌, length}
use Rattle.rw_write_request.specs.declared.kind.Kind.TheVariants as kinds
use Rattle.rw_write_request.specs.Read.{read_fields, label_step, read_label}
use Rattle.rw_write_request.proofs.reader.label_texts.Given as goal

abbrev pub invariant-loop-rest : goal.invariant-loop-rest
invariant-loop-rest l = read_fields kinds.Label label_step (l.label.0.now, l.label.1.now) l.rest ≡ read_label l.bytes

abbrev pub decreases-loop-rest : goal.decreases-loop-rest
decreases-loop-rest l = length l.rest
