-- The references of a log, as definitions and samples are written.
use Rattle.std.proofs.Common.{◌≡◌, ℕ, ℤ, List, [], ◌++◌, map, sym, ap, ◌∙◌, subst}
use Rattle.rw_types.specs.Labels.{Labels}
use Rattle.rw_types.specs.declared.entry.Entry.{Entry}
use Rattle.rw_wal_format.specs.Laws.{sample_entry}
use Rattle.rw_kept_log.specs.Additions.{definition_entry}
use Rattle.rw_kept_log.specs.Definitions.{IsDefinedOnce}
use Rattle.rw_kept_log.specs.References.{ReferenceTable, undefined, only_defined, all_defined, IsNoted, IsTable}
use Rattle.rw_kept_head.specs.inner.Inner.{IsWritten}

-- the definitions that a log has are the same
pub still_noted : (es fs : List Entry) (n more : ReferenceTable) → fs ≡ es → only_defined more ≡ only_defined n → IsNoted es n → IsNoted fs more
still_noted es fs n more same undone noted =
    let whole : IsNoted es (only_defined n) = record { stand = noted.stand; below = noted.below; knows = noted.knows } in
    let later : IsNoted fs (only_defined more) = subst (λ (x : List Entry). IsNoted x (only_defined more)) (sym same) (subst (IsNoted es) (sym undone) whole) in
    record { stand = later.stand; below = later.below; knows = later.knows }

-- and without the label sets that were not written
pub noted_undone : (es fs : List Entry) (n more : ReferenceTable) → fs ≡ es → only_defined more ≡ only_defined n → IsNoted es n → IsNoted fs (only_defined more)
noted_undone es fs n more same undone noted =
    let later = still_noted es fs n more same undone noted in
    record { stand = later.stand; below = later.below; knows = later.knows }

-- nothing is left of what was not written
pub nothing_new : (n more : ReferenceTable) → n.fresh ≡ [] → only_defined more ≡ only_defined n → only_defined more ≡ n
nothing_new n more none undone = undone ∙ ap (λ (ls : List Labels). record n { fresh = ls }) (sym none)

-- what is written, and the references after it
pub is_written : (es fs : List Entry) (n more later : ReferenceTable) (samples : List (ℕ × ℤ × ℕ)) → only_defined more ≡ only_defined n → later ≡ all_defined more
    → fs ≡ es ++ map definition_entry (undefined more) ++ map sample_entry samples → IsWritten n later es fs
is_written es fs n more later samples undone committed written =
    subst (λ (m : ReferenceTable). IsWritten n m es fs) (sym committed)
    (record {
      samples = samples;
      kept = (undefined more, ap (λ (m : ReferenceTable). m.known ++ undefined more) undone);
      entries = written;
    })

-- the references after it are those that the log defines
pub noted_written : (es fs : List Entry) (more later : ReferenceTable) (samples : List (ℕ × ℤ × ℕ))
    → ((es : List Entry) (n : ReferenceTable) (samples : List (ℕ × ℤ × ℕ)) → IsNoted es n → IsTable n
    → IsNoted (es ++ map definition_entry (undefined n) ++ map sample_entry samples) (all_defined n))
    → IsNoted es more → IsTable more → later ≡ all_defined more → fs ≡ es ++ map definition_entry (undefined more) ++ map sample_entry samples → IsNoted fs later
noted_written es fs more later samples law noted table committed written =
    subst (λ (m : ReferenceTable). IsNoted fs m) (sym committed)
    (subst (λ (x : List Entry). IsNoted x (all_defined more)) (sym written) (law es more samples noted table))

-- and it defines each label set once, if it did so before
pub once_written : (es base fs : List Entry) (more : ReferenceTable) (samples : List (ℕ × ℤ × ℕ))
    → ((es : List Entry) (n : ReferenceTable) (samples : List (ℕ × ℤ × ℕ)) → IsNoted es n → IsTable n → IsDefinedOnce es
    → IsDefinedOnce (es ++ map definition_entry (undefined n) ++ map sample_entry samples))
    → base ≡ es → IsNoted base more → IsTable more → fs ≡ base ++ map definition_entry (undefined more) ++ map sample_entry samples → IsDefinedOnce es → IsDefinedOnce fs
once_written es base fs more samples law same noted table written once =
    subst IsDefinedOnce (sym written) (law base more samples noted table (subst IsDefinedOnce (sym same) once))

-- no label sets are new
pub none_new : (n later : ReferenceTable) → later ≡ all_defined n → later.fresh ≡ []
none_new n later committed = ap (λ (m : ReferenceTable). m.fresh) committed
