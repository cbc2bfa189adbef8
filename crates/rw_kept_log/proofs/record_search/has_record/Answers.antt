use Rattle.std.proofs.Common.{inl, inr, sym}
use Rattle.rw_kept_log.proofs.RecordAtLemmas.{no_record, record_is}
use Rattle.rw_kept_log.proofs.record_search.has_record.Goals as goal

pub returns-then-left-lt-HEADER_BYTES : goal.returns-then-left-lt-HEADER_BYTES
returns-then-left-lt-HEADER_BYTES c = sym (no_record c.args.left c.args.bytes.now c.requires (inl c.if-left-lt-HEADER_BYTES.true))

pub returns-then-bytes-lt-HEADER_BYTES : goal.returns-then-bytes-lt-HEADER_BYTES
returns-then-bytes-lt-HEADER_BYTES c = sym (no_record c.args.left c.args.bytes.now c.requires (inr (inr c.if-bytes-lt-HEADER_BYTES.true)))

pub returns-then-bytes-ne1 : goal.returns-then-bytes-ne1
returns-then-bytes-ne1 c = sym (no_record c.args.left c.args.bytes.now c.requires (inr (inl c.if-bytes-ne1.true)))

pub returns : goal.returns
returns c = record_is c.args.left c.args.bytes.now c.read_u16.result c.read_u32.result c.has_data.result c.if-left-lt-HEADER_BYTES.false c.if-bytes-lt-HEADER_BYTES.false c.if-bytes-ne1.false c.read_u16.ensures c.read_u32.ensures c.has_data.ensures
