-- Why a record was not read.
use Rattle.rw_wal_tail.specs.declared.record.Unread.{Unread}
use Rattle.rw_wal_tail.specs.declared.record.Unread.TheVariants.{OutOfMemory, BadForm}

-- what a refusal for another cause than memory says
abbrev pub BadFormOnly : Unread → Type 0 → Type 0
BadFormOnly OutOfMemory P = Unit {0}
BadFormOnly BadForm P = P
