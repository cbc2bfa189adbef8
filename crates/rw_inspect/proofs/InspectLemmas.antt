-- The report of a log.
use Rattle.std.proofs.Common.{◌≡◌, ℕ, Bool, List, [], ◌++◌, Option, Result, Ok, Err, sym, ap, ◌∙◌, subst}
use Rattle.std.specs.Prelude.{take}
use Rattle.std.specs.Result.{IsErrAnd}
use Rattle.rw_types.specs.declared.entry.Entry.{Entry}
use Rattle.rw_log_read.specs.Logs.{AreRows, ReadsFirst, ReadsNamed, fault_in}
use Rattle.rw_wal_tail.specs.declared.place.Damage.{Damage}
use Rattle.rw_log_read.specs.declared.log_read.Segment.{Segment}
use Rattle.rw_inspect.specs.Counting.{log_counts}
use Rattle.rw_inspect.specs.Inspecting.{IsReportOfFirst}
use Rattle.rw_inspect.specs.inner.Inspecting.{Reports}
use Rattle.rw_inspect.specs.Troubles.{not_rising, troubles_of}
use Rattle.rw_inspect.specs.declared.report.LogFindings.{LogFindings}

-- the report of what was read
pub reported_first : (c : Bool) (lefts : List (Option (List ℕ))) (taken : List Entry) (rows : List Segment) (damage : Option Damage) (r : LogFindings) → ReadsNamed c lefts taken rows (fault_in damage) → Reports c taken rows damage r → IsReportOfFirst c lefts r
reported_first c lefts taken rows damage r h m = record {
  texts = h.texts;
  read = subst (ReadsFirst lefts h.texts) h.are.fault_is h.read;
  report = record {
    rows_are = subst (AreRows c [] h.texts) (sym m.rows_are) h.are.rows_are;
    counts_are = m.counts_are ∙ ap log_counts h.are.all;
    first_are = m.first_are ∙ ap (λ es. take 10 (not_rising (troubles_of es))) h.are.all;
    fault_is = ap fault_in m.damage_is ∙ h.are.fault_is;
    compresses_is = m.compresses_is;
  };
}

-- an error that is handed on
pub handed_on : {A E : Type 0} (r : Result A E) (f e : E) → IsErrAnd r (λ g. g ≡ f) → r ≡ Err e → e ≡ f
handed_on (Ok x) f e h is = absurd h
handed_on (Err g) f e h is = let same : g ≡ e = cc in sym same ∙ h

-- what is added to nothing
pub appended : (now old added : List ℕ) → now ≡ old ++ added → old ≡ [] → now ≡ added
appended now old added is none = is ∙ ap (λ l. l ++ added) none
