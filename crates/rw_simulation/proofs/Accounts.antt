-- What the machine's laws say of the names of a report.
use Rattle.std.proofs.Common.{◌≡◌, ℕ, ◌<◌, ◌≤◌, List, [], ◌++◌, length, take, Option, Some, None, slice_get, refl, sym, ap, ◌∙◌, subst, arith}
use Rattle.std.specs.FinMap.{get}
use Rattle.std.proofs.lemmas.List.{take-append-le}
use Rattle.std.proofs.lemmas.Option.{same_Some, none-some}
use Rattle.rw_types.specs.Beginnings.{Begins}
use Rattle.rw_types.specs.declared.entry.Entry.{Entry}
use Rattle.rw_types.specs.declared.entry.Entry.TheVariants.{Def, Sample}
use Rattle.rw_wal_format.specs.Pieces.{entries}
use Rattle.rw_relabel.specs.declared.choice.Choice.{Choice}
use Rattle.rw_series_cache.specs.Known.{known}
use Rattle.rw_series_cache.specs.Rising.{rises}
use Rattle.rw_ledger.specs.declared.ledger.Reason.{Reason}
use Rattle.rw_worker.specs.Transcript.{Exchange}
use Rattle.rw_sender.specs.Shipping.{Shipping, HasStopped}
use Rattle.rw_sender.specs.declared.report.Report.{Report}
use Rattle.rw_machine.specs.Worlds.{Setup, World, log}
use Rattle.rw_machine.specs.Promises.{Accounted, AccountedEntry, HasOneClassEach}
use Rattle.rw_machine.proofs.shared.Classes.{get_left}
use Rattle.rw_simulation.specs.FreeLaws.{world_of}
use Rattle.rw_simulation.specs.StoppedRuns.{ComesTo}
use Rattle.rw_sender.specs.Reports.{parts_of}
use Rattle.rw_simulation.proofs.shared.PlainLogs.{begins-plain}
use Rattle.rw_simulation.specs.Accounts.{IsNamedAs, AccountedAs, AccountsForAll, RunAccounts}

at_most : (p n : ℕ) → p < n → p ≤ n
at_most p n lt = omega arith

module _ {T : Type 0} (tells : T → Type 0) (seen : T → List Exchange) (is_for : ℕ → ℕ → T → Type 0) (s : Shipping T) (r : Report T) (c : Setup) (h : HasStopped tells seen is_for s r) (choice : c.choice ≡ s.log.choice) (plain : s.log.labels ≡ []) (w : World) (comes : ComesTo tells seen c s r w) (classes : HasOneClassEach c w) where
  begun : Begins s.log.placed (entries s.log.pieces)
  begun = begins-plain s.log plain h.read

  log_is : log w ≡ s.log.placed ++ begun.0
  log_is = ap entries comes.log ∙ begun.1

  named-as : (p : ℕ) (named : Option Reason) → get w.names p ≡ named → IsNamedAs (parts_of r) p named
  named-as p None e = λ reason n. none-some reason (sym e ∙ (comes.names p reason).1 n)
  named-as p (Some reason) e = ((comes.names p reason).0 e, λ other n. same_Some _ _ (sym ((comes.names p other).1 n) ∙ e))

  accounted-as : (p : ℕ) (named : Option Reason) (o : Option Entry) → p < length s.log.placed → get w.names p ≡ named → AccountedEntry c w p o → AccountedAs s.log.choice s.log.placed p named o
  accounted-as p named None lt e a = sym e ∙ a
  accounted-as p named (Some (Def k l)) lt e a = sym e ∙ a
  accounted-as p named (Some (Sample k t word)) lt e a =
      subst (λ (ch : Choice). Accounted named (λ l. rises ch (take p s.log.placed) l t) (known ch (take p s.log.placed) k)) choice
      (subst (λ (es : List Entry). Accounted named (λ l. rises c.choice es l t) (known c.choice es k)) (ap (take p) log_is ∙ take-append-le p s.log.placed begun.0 (at_most p (length s.log.placed) lt))
      (subst (λ (n : Option Reason). Accounted n (λ l. rises c.choice (take p (log w)) l t) (known c.choice (take p (log w)) k)) e a))

  accounts : AccountsForAll s r
  accounts = record {
    each = λ p lt. (
      get w.names p,
      named-as p (get w.names p) refl,
      accounted-as p (get w.names p) (slice_get s.log.placed p) lt refl
          (subst (AccountedEntry c w p) (ap (λ (es : List Entry). slice_get es p) log_is ∙ get_left s.log.placed begun.0 p lt) ((classes p).0 (subst (λ (n : ℕ). p < n) (sym comes.placed) lt))),
    );
    no_other = λ p far. named-as p None ((classes p).1 (λ lt. far (subst (λ (n : ℕ). p < n) comes.placed lt)));
  }

pub run-accounts : {T : Type 0} (tells : T → Type 0) (seen : T → List Exchange) (is_for : ℕ → ℕ → T → Type 0) (s : Shipping T) (r : Report T) → RunAccounts tells seen is_for s r
run-accounts tells seen is_for s r c h machine (hs, comes, laws) = accounts tells seen is_for s r c h machine.1 machine.2 (world_of c hs) comes laws.classes
