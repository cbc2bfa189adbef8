-- Errors of a journal, when a log is opened.
use Rattle.rw_kept_log.specs.declared.journal.JournalError.{JournalError}
use Rattle.rw_kept_log.specs.declared.journal.JournalError.TheVariants as journal
use Rattle.rw_kept_log.specs.declared.error.ReopenError.{ReopenError}
use Rattle.rw_kept_log.specs.declared.error.ReopenError.TheVariants.{OutOfMemory, Failed}

abbrev pub of_journal : JournalError → ReopenError
of_journal journal.OutOfMemory = OutOfMemory
of_journal journal.Failed = Failed
