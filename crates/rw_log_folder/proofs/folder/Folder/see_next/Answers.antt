use Rattle.std.proofs.Common.{◌∙◌}
use Rattle.rw_log_folder.specs.GrowingFolders.{state}
use Rattle.rw_log_folder.proofs.GrowingLemmas.{by_number_sought, fresh_sought, gap_listed, given_seen, given_sought, seen_sought}
use Rattle.rw_log_folder.proofs.folder.Folder.see_next.Goals as goal

pub returns-then-is_some-clause-seen : goal.returns-then-is_some-clause-seen
returns-then-is_some-clause-seen g c =
    seen_sought c.look_ahead-then-is_some.result (state c.look_ahead.new.self) (state c.look_ahead-then-is_some.new.self) c.look_ahead-then-is_some.ensures.listed

pub returns-then-is_some-clause-by_number : goal.returns-then-is_some-clause-by_number
returns-then-is_some-clause-by_number g c =
    by_number_sought c.look_ahead-then-is_some.result (state c.look_ahead.new.self) (state c.look_ahead-then-is_some.new.self) c.look_ahead-then-is_some.ensures.listed

pub returns-then-is_some-clause-fresh : goal.returns-then-is_some-clause-fresh
returns-then-is_some-clause-fresh g c =
    fresh_sought c.look_ahead-then-is_some.result (state c.look_ahead.new.self) (state c.look_ahead-then-is_some.new.self) c.look_ahead-then-is_some.ensures.listed

pub returns-then-is_some-clause-stays : goal.returns-then-is_some-clause-stays
returns-then-is_some-clause-stays g c meal h =
    let listed = c.in_ok-look_ahead.ensures.listed in
    given_sought c.look_ahead-then-is_some.result (state c.look_ahead.new.self) (state c.look_ahead-then-is_some.new.self) meal c.look_ahead-then-is_some.ensures.listed c.look_ahead-then-is_some.ensures.stays
    (gap_listed (state c.args.self.now) (state c.look_ahead.new.self) listed ∙ c.requires.gap)
    (given_seen (state c.args.self.now) (state c.look_ahead.new.self) meal listed c.requires.gap h)
