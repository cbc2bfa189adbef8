use Rattle.std.proofs.Common.{refl}
use Rattle.rw_wal_tail.proofs.StepLaws.{takes_mark}
use Rattle.rw_wal_tail.proofs.reader.Reader.next_segment.Goals as goal

pub returns-clause-takes : goal.returns-clause-takes
returns-clause-takes c = takes_mark c.args.self.now _ c.requires c.end_segment.ensures refl refl refl refl refl refl refl
