use Rattle.std.proofs.Common.{rules}
use Rattle.rw_log_folder.proofs.folder.Folder.open_ahead.Goals as goal

pub returns-in-Ok-clause-opened : goal.returns-in-Ok-clause-opened
returns-in-Ok-clause-opened g c = record { name = c.in-Some.segment; was_ahead = search rules; is = search rules }
