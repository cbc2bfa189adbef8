use Rattle.std.proofs.Common.{◌≡◌, ◌+◌, ◌<◌, List, ◌++◌, length, map}
use Rattle.rw_types.specs.declared.entry.Entry.{Entry}
use Rattle.rw_kept_log.specs.Additions.{definition_entry}
use Rattle.rw_kept_log.specs.Retiring.{texts_of}
use Rattle.rw_kept_log.specs.inner.Written.{AreWhole}
use Rattle.rw_kept_log.proofs.definitions.write_definitions.Given as goal

abbrev pub invariant-loop-rest : goal.invariant-loop-rest
invariant-loop-rest l = record {
  some : 0 < l.most;
  entries : List Entry;
  whole : AreWhole (texts_of l.texts.items) entries;
  all : entries ++ map definition_entry l.rest ≡ map definition_entry l.definitions;
}

abbrev pub decreases-loop-rest : goal.decreases-loop-rest
decreases-loop-rest l = length l.rest + l.most
