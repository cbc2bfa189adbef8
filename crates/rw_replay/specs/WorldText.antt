-- The state of a world as text: what its receiver holds, and what its sender has to report.
use Rattle.std.specs.Prelude.{ℕ, List, ◌++◌}
use Rattle.std.specs.FinMap.{entries}
use Rattle.rw_report_text.specs.StateText.{store_text, work_text}
use Rattle.rw_machine.specs.Worlds.{World, report}

abbrev pub state_text : World → List ℕ
state_text w = store_text w.head.store ++ work_text (entries w.names) w.filtered (report w)
