use Rattle.std.proofs.Common.{◌∙◌, sym}
use Rattle.rw_wal_tail.proofs.FoundLaws.{known_zeros, zeros_wrong, zeros_begun, zeros_whole}
use Rattle.rw_wal_tail.proofs.item.zeros.Goals as goal

pub returns-then-not-are_zero-clause-item : goal.returns-then-not-are_zero-clause-item
returns-then-not-are_zero-clause-item c =
    zeros_wrong c.args.left c.args.bytes.now c.are_zero.result (known_zeros c.args.left c.args.known c.min-end.result c.args.bytes.now c.requires c.min-end.ensures ∙ sym c.are_zero.ensures) c.if-not-are_zero.true

pub returns-then-bytes-left-clause-item : goal.returns-then-bytes-left-clause-item
returns-then-bytes-left-clause-item c =
    zeros_begun c.args.left c.args.bytes.now c.are_zero.result (known_zeros c.args.left c.args.known c.min-end.result c.args.bytes.now c.requires c.min-end.ensures ∙ sym c.are_zero.ensures) c.if-not-are_zero.false c.if-bytes-left.true

pub returns-else-bytes-left-clause-item : goal.returns-else-bytes-left-clause-item
returns-else-bytes-left-clause-item c =
    zeros_whole c.args.left c.args.bytes.now c.are_zero.result (known_zeros c.args.left c.args.known c.min-end.result c.args.bytes.now c.requires c.min-end.ensures ∙ sym c.are_zero.ensures) c.if-not-are_zero.false c.if-bytes-left.false
