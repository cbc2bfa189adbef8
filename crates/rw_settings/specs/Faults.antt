-- The faults of settings, and the least of some.
use Rattle.std.specs.Prelude.{ℕ, List, fold, Option, Some, None, nat_lt, if◌then◌else◌}
use Rattle.rw_settings.specs.declared.fault.SettingsFault.{SettingsFault}
use Rattle.rw_settings.specs.declared.fault.SettingsFault.TheVariants.{OutOfMemory, NotToml, UnknownKey, WrongType, OutOfRange, BadRule}

abbrev pub fault_number : SettingsFault → ℕ
fault_number OutOfMemory = 0
fault_number NotToml = 1
fault_number UnknownKey = 2
fault_number WrongType = 3
fault_number OutOfRange = 4
fault_number BadRule = 5

-- the lesser of two faults, if there is any
abbrev pub lesser : Option SettingsFault → Option SettingsFault → Option SettingsFault
lesser None g = g
lesser (Some f) None = Some f
lesser (Some f) (Some g) = if nat_lt (fault_number g) (fault_number f) then Some g else Some f

-- the least fault, if there is any
unfoldable pub least : List (Option SettingsFault) → Option SettingsFault
least faults = fold lesser None faults
