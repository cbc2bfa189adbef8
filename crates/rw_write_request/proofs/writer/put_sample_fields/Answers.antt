use Rattle.std.proofs.Common.{length, ap, arith, rules}
use Rattle.std.specs.Prelude.{FitsSigned}
use Rattle.std.specs.Int.{w64}
use Rattle.rw_write_request.specs.Canon.{sample_field}
use Rattle.rw_types.proofs.shared.FittingLemmas.{part_fits, has_room, len_of, one_more}
use Rattle.rw_write_request.specs.Valid.{IsValidSample}
use Rattle.rw_write_request.proofs.shared.Validity.{all_more, all_taken}
use Rattle.rw_write_request.proofs.shared.Spelled.{same-sample-field}
use Rattle.rw_write_request.proofs.writer.put_sample_fields.Goals as goal

pub put_sample_field-requires : goal.put_sample_field-requires
put_sample_field-requires c =
    let fits : FitsSigned w64 c.loop-word-item.result.1 = search rules in
    let part = part_fits sample_field c.args.samples.now c.loop-word.word-index c.loop-word-item.result c.loop-word-test.true c.loop-word-item.is in
    let len = len_of _ _ _ _ _ c.loop-word.invariant.items c.loop-word.out.ok.0 c.args.out.now.ok.0 in
    let same = ap length (same-sample-field c.loop-word-item.result.0 c.loop-word-item.result.1 fits) in
    record { room = has_room _ _ _ _ _ _ _ _ c.requires.room c.loop-word.invariant.capacity part len same }

pub loop-word-preserved : goal.loop-word-preserved
loop-word-preserved c =
    let fits : FitsSigned w64 c.loop-word-item.result.1 = search rules in
    let same = same-sample-field c.loop-word-item.result.0 c.loop-word-item.result.1 fits in
    record {
      items = one_more sample_field c.args.samples.now c.loop-word.word-index c.loop-word-item.result _ _ _ _ c.loop-word-test.true c.loop-word-item.is c.loop-word.invariant.items c.put_sample_field.ensures.items same;
      words = all_more IsValidSample c.args.samples.now c.loop-word.word-index c.loop-word-item.result c.loop-word-test.true c.loop-word-item.is (c.put_sample_field.ensures.fits, fits) c.loop-word.invariant.words;
      capacity = omega (arith, c.loop-word.invariant.capacity, c.put_sample_field.ensures.capacity);
    }

pub returns-clause-words : goal.returns-clause-words
returns-clause-words c = all_taken IsValidSample c.args.samples.now c.loop-word.word-index (omega arith) c.loop-word.invariant.words
