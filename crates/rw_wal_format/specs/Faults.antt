-- The faults of a log as numbers.
use Rattle.std.specs.Prelude.{ℕ}
use Rattle.rw_wal_format.specs.declared.tail_fault.TailFault.{TailFault}
use Rattle.rw_wal_format.specs.declared.tail_fault.TailFault.TheVariants.{OutOfMemory, BadType, BadLength, BadCrc, Compressed, NonzeroPadding, Sequence, BadRecord, TornSegment}

-- the number of a fault of a log; out of memory is not one
abbrev pub log_fault_number : TailFault → ℕ
log_fault_number OutOfMemory = 0
log_fault_number BadType = 1
log_fault_number BadLength = 2
log_fault_number BadCrc = 3
log_fault_number Compressed = 4
log_fault_number NonzeroPadding = 5
log_fault_number Sequence = 6
log_fault_number BadRecord = 7
log_fault_number TornSegment = 8
