-- A segment of the log of a head was taken, or memory ran out.
use Rattle.std.proofs.Common.{◌≡◌, ℕ, true, false, Result, Ok, Err, OnOk, OnErr, IfErr, IsErrAnd, ap, sym, subst, ◌∙◌}
use Rattle.rw_head.specs.Verdicts.{LabelLimits}
use Rattle.rw_kept_log.specs.Errors.{of_journal}
use Rattle.rw_kept_log.specs.Journal.{Segments}
use Rattle.rw_kept_log.specs.Taken.{LogTaken}
use Rattle.rw_kept_log.specs.declared.journal.JournalError.{JournalError}
use Rattle.rw_kept_log.specs.declared.journal.JournalError.TheVariants as journal
use Rattle.rw_kept_head.specs.Opening.{IsRefusedRightly}
use Rattle.rw_kept_head.specs.declared.open_error.OpenError.{OpenError}
use Rattle.rw_kept_head.specs.declared.open_error.OpenError.TheVariants.{Log}
use Rattle.rw_kept_head.specs.inner.Opening.{IsMadeWith}
use Rattle.rw_kept_head.specs.inner.Restoring.{Restored, Setting}

abbrev setting_of : Restored → Setting
setting_of r = record { limits = r.head.limits; busy = r.head.busy; failed = r.failed }

pub still_made : {T E : Type 0} (r : Result T E) (old new : LogTaken Restored) (limits : LabelLimits) (busy : ℕ) → OnOk r (setting_of new.sink ≡ setting_of old.sink) → OnErr r (new.failed ≡ true)
    → OnOk r ((old.failed ≡ false) × (new.failed ≡ false)) → (old.failed ≡ false → IsMadeWith old.sink limits busy) → new.failed ≡ false → IsMadeWith new.sink limits busy
still_made (Ok x) old new limits busy fixed failed ready before is =
    let was = before ready.0 in
    record {
      limits_are = ap (λ (s : Setting). s.limits) fixed ∙ was.limits_are;
      busy_is = ap (λ (s : Setting). s.busy) fixed ∙ was.busy_is;
      whole = ap (λ (s : Setting). s.failed) fixed ∙ was.whole;
    }
still_made (Err e) old new limits busy fixed failed ready before is = absurd cc

-- a log is refused after a failed call of its journal
pub refused_by_fault : {X : Type 0} (old new : Segments) (r : Result X OpenError) (f : JournalError) → IsErrAnd r (λ e. e ≡ Log (of_journal f)) → IfErr r (IsRefusedRightly old new)
refused_by_fault old new (Ok x) f h = tt
refused_by_fault old new (Err e) f h = subst (IsRefusedRightly old new) (sym h) (by_fault f)
  where
    by_fault : (f : JournalError) → IsRefusedRightly old new (Log (of_journal f))
    by_fault journal.OutOfMemory = tt
    by_fault journal.Failed = tt
