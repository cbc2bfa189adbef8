use Rattle.std.proofs.Common.{refl}
use Rattle.rw_wal_format.specs.Records.{label_bytes}
use Rattle.rw_wal_write.proofs.FitLemmas.{label_bytes_next, texts_next, texts_all}
use Rattle.rw_wal_write.proofs.record.put_labels.Goals as goal

pub loop-label-preserved : goal.loop-label-preserved
loop-label-preserved c = record {
  bytes = label_bytes_next label_bytes c.args.labels.now c.loop-label.label-index c.label-item.result _ _ _ c.loop-label-test.true c.label-item.is
      c.loop-label.invariant.bytes c.in_ok-put_label.ensures.bytes;
  texts = texts_next c.args.labels.now c.loop-label.label-index c.label-item.result c.loop-label-test.true c.label-item.is c.loop-label.invariant.texts c.in_ok-put_label.ensures.text;
}

pub returns-clause-texts : goal.returns-clause-texts
returns-clause-texts c = texts_all c.args.labels.now c.loop-label.label-index _ c.loop-label-test.false refl c.loop-label.invariant.texts
