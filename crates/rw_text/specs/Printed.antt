-- What is printed of a fault, and the exit status that it gives.
use Rattle.std.specs.Prelude.{ℕ, List, ◌++◌, codes}
use Rattle.std.specs.Fmt.{decimal}
use Rattle.rw_wal_format.specs.Faults.{log_fault_number}
use Rattle.rw_text.specs.declared.tool_fault.ToolFault.{ToolFault}
use Rattle.rw_text.specs.declared.tool_fault.ToolFault.TheVariants.{OutOfMemory, Log, Line, SegmentFull, Device}

abbrev pub fault_text : ToolFault → List ℕ
fault_text OutOfMemory = codes "out of memory"
fault_text (Log f) = codes "log fault " ++ decimal (log_fault_number f)
fault_text (Line n) = codes "line " ++ decimal n
fault_text SegmentFull = codes "segment full"
fault_text Device = codes "device"

-- 1 for the data, 3 for memory, 4 for a device
abbrev pub exit_status : ToolFault → ℕ
exit_status OutOfMemory = 3
exit_status (Log f) = 1
exit_status (Line n) = 1
exit_status SegmentFull = 1
exit_status Device = 4
