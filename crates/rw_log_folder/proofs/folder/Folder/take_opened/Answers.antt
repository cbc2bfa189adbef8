use Rattle.std.proofs.Common.{rules}
use Rattle.rw_log_folder.proofs.folder.Folder.take_opened.Goals as goal

pub returns-in-Some-clause-some : goal.returns-in-Some-clause-some
returns-in-Some-clause-some g c some = record { name = c.in-Some.next.segment; is = search rules }
