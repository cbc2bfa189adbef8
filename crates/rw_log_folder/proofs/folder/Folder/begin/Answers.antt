use Rattle.std.proofs.Common.{rules, None, refl}
use Rattle.rw_log_folder.specs.GrowingFolders.{state}
use Rattle.rw_log_folder.proofs.GrowingLemmas.{given_cleared, given_first, given_gap, given_seen}
use Rattle.rw_log_folder.proofs.folder.Folder.begin.Goals as goal

pub returns-then-self-clause-stays : goal.returns-then-self-clause-stays
returns-then-self-clause-stays g c meal h = c.begin_at_checkpoint.ensures.stays meal (given_cleared (state c.args.self.now) meal h)

pub returns-then-is_first_missing-clause-stays : goal.returns-then-is_first_missing-clause-stays
returns-then-is_first_missing-clause-stays g c meal =
    given_gap (state c.args.self.now) (state c.look_ahead.new.self) meal c.in_ok-look_ahead.ensures.listed (search rules) (search rules)

pub returns-then-is_none-clause-stays : goal.returns-then-is_none-clause-stays
returns-then-is_none-clause-stays g c meal h =
    given_seen (record (state c.args.self.now) { gap = None }) (state c.look_ahead.new.self) meal c.in_ok-look_ahead.ensures.listed refl (given_cleared (state c.args.self.now) meal h)

pub returns-clause-stays : goal.returns-clause-stays
returns-clause-stays g c meal =
    given_first c.open_ahead.result (state c.args.self.now) (state c.look_ahead.new.self) (state c.open_ahead.new.self) meal c.in_ok-look_ahead.ensures.listed c.open_ahead.ensures.opened c.open_ahead.ensures.stays
    (search rules)
