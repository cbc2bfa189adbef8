use Rattle.rw_wal_write.proofs.Reading.{entries_read}
use Rattle.rw_wal_write.proofs.laws.entries_are_read.Goals as goal

pub returns : goal.returns
returns g c = entries_read g.W.Sink.contents g.W.Sink.has_failed g.W.Sink.room
