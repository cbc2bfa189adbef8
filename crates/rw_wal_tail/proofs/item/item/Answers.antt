use Rattle.std.proofs.Common.{◌≡◌, ◌<◌, ◌∙◌, true, length, ap, sym, get_or}
use Rattle.rw_wal_format.specs.Segments.{item_in, zeros_at, wrong, flagged}
use Rattle.rw_wal_format.specs.Types.{kind_of}
use Rattle.rw_wal_format.specs.declared.tail_fault.TailFault.{TailFault}
use Rattle.rw_wal_tail.proofs.ItemLaws.{not_empty, is_empty}
use Rattle.rw_wal_tail.proofs.FoundLaws.{item_none, item_little, item_zero, item_fragment, item_wrong, may_be_kind, fits_after, NoType, NoSnappyType}
use Rattle.rw_wal_tail.proofs.item.item.Goals as goal
use Rattle.rw_wal_tail.proofs.item.item.Goals.{then-left-lt-HEADER_BYTES-via-then-left-lt-HEADER_BYTES, then-left-lt-HEADER_BYTES-via-else-left-lt-HEADER_BYTES+then-kind-eq0}

pub returns-then-is_empty-clause-item : goal.returns-then-is_empty-clause-item
returns-then-is_empty-clause-item c = item_none c.args.may_compress c.args.left c.args.bytes.now (is_empty c.args.bytes.now c.is_empty.result c.is_empty.ensures c.if-is_empty.true)

pub returns-then-left-lt-HEADER_BYTES-clause-item : goal.returns-then-left-lt-HEADER_BYTES-clause-item
returns-then-left-lt-HEADER_BYTES-clause-item c =
    let h : 0 < length c.args.bytes.now = not_empty c.args.bytes.now c.is_empty.result c.is_empty.ensures c.if-is_empty.false in
    let e : item_in c.args.may_compress c.args.left c.args.bytes.now ≡ zeros_at c.args.left c.args.bytes.now = elim c.then-left-lt-HEADER_BYTES.branch [
      | then-left-lt-HEADER_BYTES-via-then-left-lt-HEADER_BYTES w ↦ item_little c.args.may_compress c.args.left c.args.bytes.now h w.if-left-lt-HEADER_BYTES.true
      | then-left-lt-HEADER_BYTES-via-else-left-lt-HEADER_BYTES+then-kind-eq0 w ↦ item_zero c.args.may_compress c.args.left c.args.bytes.now h w.if-left-lt-HEADER_BYTES.false w.if-kind-eq0.true
    ] in
    e ∙ c.zeros.ensures.item

pub returns-then-left-lt-HEADER_BYTES-clause-fits : goal.returns-then-left-lt-HEADER_BYTES-clause-fits
returns-then-left-lt-HEADER_BYTES-clause-fits c = c.zeros.ensures.fits c.args.may_compress

pub returns-in-Some-clause-item : goal.returns-in-Some-clause-item
returns-in-Some-clause-item c =
    let h : 0 < length c.args.bytes.now = not_empty c.args.bytes.now c.is_empty.result c.is_empty.ensures c.if-is_empty.false in
    item_fragment c.args.may_compress (flagged c.in-Some.is_block (kind_of c.in-Some.part)) c.args.left c.args.bytes.now c.fragment.result (may_be_kind c.args.may_compress c.in-Some.is_block c.in-Some.part c.in-Some.ensures.part.1) h c.if-left-lt-HEADER_BYTES.false c.in-Some.ensures.part.0 c.fragment.ensures.item

pub returns-in-Some-clause-fits : goal.returns-in-Some-clause-fits
returns-in-Some-clause-fits c =
    let h : 0 < length c.args.bytes.now = not_empty c.args.bytes.now c.is_empty.result c.is_empty.ensures c.if-is_empty.false in
    fits_after c.args.may_compress c.in-Some.is_block c.args.left c.args.bytes.now c.fragment.result c.in-Some.ensures.part.1 h c.fragment.ensures.fits

pub returns-in-None-clause-item : goal.returns-in-None-clause-item
returns-in-None-clause-item c =
    let h : 0 < length c.args.bytes.now = not_empty c.args.bytes.now c.is_empty.result c.is_empty.ensures c.if-is_empty.false in
    let o = c.part_of.ensures.none c.in-None.is in
    let n : NoType (get_or c.args.bytes.now 0 0) = record { zero = c.if-kind-eq0.false; one = o.0.0; two = o.0.1; three = o.0.2; four = o.0.3 } in
    let m : c.args.may_compress ≡ true → NoSnappyType (get_or c.args.bytes.now 0 0) = λ e. (let q = o.1 e in record { nine = q.0; ten = q.1; eleven = q.2; twelve = q.3 }) in
    item_wrong c.args.may_compress c.args.left c.args.bytes.now h c.if-left-lt-HEADER_BYTES.false n m ∙ ap (λ (f : TailFault). wrong f) (sym c.wrong_type.ensures)
