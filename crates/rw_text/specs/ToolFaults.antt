-- The faults of the parts, as those of a command.
use Rattle.rw_types.specs.declared.transfer.ReadFault.{ReadFault}
use Rattle.rw_types.specs.declared.transfer.ReadFault.TheVariants as read
use Rattle.rw_wal_format.specs.declared.tail_fault.TailFault.{TailFault}
use Rattle.rw_wal_format.specs.declared.tail_fault.TailFault.TheVariants as tail
use Rattle.rw_text.specs.declared.hex_fault.HexFault.{HexFault}
use Rattle.rw_text.specs.declared.hex_fault.HexFault.TheVariants as hex
use Rattle.rw_text.specs.declared.tool_fault.ToolFault.{ToolFault}
use Rattle.rw_text.specs.declared.tool_fault.ToolFault.TheVariants.{OutOfMemory, Log, Line, Device}

-- of a log
abbrev pub fault_of_log : TailFault → ToolFault
fault_of_log tail.OutOfMemory = OutOfMemory
fault_of_log f = Log f

-- of hexadecimal text
abbrev pub fault_of_hex : HexFault → ToolFault
fault_of_hex hex.OutOfMemory = OutOfMemory
fault_of_hex (hex.Line line) = Line line

-- of a reader
abbrev pub fault_of_reading : ReadFault → ToolFault
fault_of_reading read.OutOfMemory = OutOfMemory
fault_of_reading read.Failed = Device
