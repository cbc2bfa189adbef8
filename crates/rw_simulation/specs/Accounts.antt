-- What a run of the machine says about a report, in the terms of the report.
use Rattle.std.specs.Prelude.{◌≡◌, ℕ, ◌<◌, List, length, take, Option, Some, None, slice_get}
use Rattle.rw_types.specs.declared.entry.Entry.{Entry}
use Rattle.rw_types.specs.declared.entry.Entry.TheVariants.{Def, Sample}
use Rattle.rw_relabel.specs.declared.choice.Choice.{Choice}
use Rattle.rw_series_cache.specs.Known.{known}
use Rattle.rw_series_cache.specs.Rising.{rises}
use Rattle.rw_ledger.specs.declared.ledger.Reason.{Reason}
use Rattle.rw_ledger.specs.Names.{Named}
use Rattle.rw_worker.specs.Transcript.{Exchange}
use Rattle.rw_sender.specs.Shipping.{Shipping, HasStopped}
use Rattle.rw_sender.specs.declared.report.Report.{Report}
use Rattle.rw_machine.specs.Worlds.{Setup}
use Rattle.rw_machine.specs.Promises.{Accounted}
use Rattle.rw_sender.specs.Reports.{parts_of}
use Rattle.rw_restarts.specs.Listed.{IsNamedIn}
use Rattle.rw_simulation.specs.StoppedRuns.{IsMachineOf, IsRun}

-- the parts do not name the position, or name it with this reason alone
abbrev pub IsNamedAs : List Named → ℕ → Option Reason → Type 0
IsNamedAs parts p None = (reason : Reason) → IsNamedIn parts p reason → ⊥
IsNamedAs parts p (Some reason) = IsNamedIn parts p reason × ((other : Reason) → IsNamedIn parts p other → other ≡ reason)

-- an entry that is so named is accounted for by what is known of its reference there: a sample is
-- named for its true reason, or it is filtered, or owed
abbrev pub AccountedAs : Choice → List Entry → ℕ → Option Reason → Option Entry → Type 0
AccountedAs choice placed p named None = named ≡ None
AccountedAs choice placed p named (Some (Def r l)) = named ≡ None
AccountedAs choice placed p named (Some (Sample r t word)) = Accounted named (λ l. rises choice (take p placed) l t) (known choice (take p placed) r)

-- each entry placed is in one class over all parts of the report, and the parts name nothing else
pub record AccountsForAll {T : Type 0} (s : Shipping T) (r : Report T) : Type 0 where
  pub each : (p : ℕ) → p < length s.log.placed → (named : Option Reason) × IsNamedAs (parts_of r) p named × AccountedAs s.log.choice s.log.placed p named (slice_get s.log.placed p)
  pub no_other : (p : ℕ) → (p < length s.log.placed → ⊥) → IsNamedAs (parts_of r) p None

-- the same for the report of each shipper that is a run of the machine
abbrev pub RunAccounts : {T : Type 0} → (T → Type 0) → (T → List Exchange) → (ℕ → ℕ → T → Type 0) → Shipping T → Report T → Type 0
RunAccounts tells seen is_for s r = (c : Setup) → HasStopped tells seen is_for s r → IsMachineOf c s → IsRun tells seen c s r → AccountsForAll s r
