-- The exit status of the program if the settings cannot be read, and if following a log ended.
use Rattle.std.specs.Prelude.{ℕ}
use Rattle.rw_send.specs.declared.follow_fault.FollowFault.{FollowFault}
use Rattle.rw_send.specs.declared.follow_fault.FollowFault.TheVariants as Follow
use Rattle.rw_text.specs.Printed.{exit_status}
use Rattle.rwship.specs.declared.settings.Unset.{Unset}
use Rattle.rwship.specs.declared.settings.Unset.TheVariants.{Tool, Unreadable, Settings}

-- that of the fault, 4 for a file that cannot be read, and 2 for a fault of the settings
abbrev pub unset_status : Unset → ℕ
unset_status (Tool f) = exit_status f
unset_status (Unreadable said) = 4
unset_status (Settings f notes) = 2

-- that of the fault, and 4 if a segment is missing or a stop was asked for at once
abbrev pub follow_status : FollowFault → ℕ
follow_status (Follow.Tool f) = exit_status f
follow_status (Follow.Missing n) = 4
follow_status Follow.Stopped = 4
