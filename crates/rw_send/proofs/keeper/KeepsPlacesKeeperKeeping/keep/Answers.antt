use Rattle.std.specs.Prelude.{string_bytes}
use Rattle.rw_resume.specs.Positions.{text_at}
use Rattle.rw_send.proofs.KeepLemmas.{either_named}
use Rattle.rw_send.proofs.keeper.KeepsPlacesKeeperKeeping.keep.Goals as goal

pub returns-in-Some-clause-file : goal.returns-in-Some-clause-file
returns-in-Some-clause-file g c = λ found left. either_named _ (text_at (string_bytes c.args.watch.now.log)) c.in-Some.number c.in-Some.bytes _ found c.in-Some.ensures.0 c.in-Some.ensures.1 (c.keep.ensures.either found left)
