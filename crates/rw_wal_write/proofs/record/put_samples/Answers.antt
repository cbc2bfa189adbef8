use Rattle.rw_wal_write.proofs.FitLemmas.{sample_bytes_next, samples_next, samples_all}
use Rattle.rw_wal_write.proofs.record.put_samples.Goals as goal

pub loop-sample-preserved : goal.loop-sample-preserved
loop-sample-preserved c = record {
  bytes = sample_bytes_next _ c.args.samples.now c.loop-sample.sample-index c.sample-item.result _ _ _ c.loop-sample-test.true c.sample-item.is
      c.loop-sample.invariant.bytes c.in_ok-put_sample.ensures.bytes;
  fit = samples_next c.args.samples.now c.loop-sample.sample-index c.sample-item.result c.loop-sample-test.true c.sample-item.is c.loop-sample.invariant.fit c.in_ok-put_sample.ensures.fits;
}

pub returns-clause-fit : goal.returns-clause-fit
returns-clause-fit c = samples_all c.args.samples.now c.loop-sample.sample-index c.loop-sample-test.false c.loop-sample.invariant.fit
