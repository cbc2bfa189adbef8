-- A report is printed.
use Rattle.std.proofs.Common.{◌≡◌, ◌⊎◌, inl, inr, ℕ, Bool, List, map, Option, None, Result, Ok, Err, OnOk, sym, ap, subst}
use Rattle.std.specs.Result.{IsErrAnd}
use Rattle.std.specs.Io.KnownBytes.{Appends}
use Rattle.rw_follow.specs.declared.signal.StopRequest.{StopRequest}
use Rattle.rw_shard_core.specs.declared.config.ConfigFields.{ConfigFields}
use Rattle.rw_worker.specs.Transcript.{Exchange}
use Rattle.rw_sender.specs.declared.report.Report.{Report}
use Rattle.rw_sender.specs.declared.shipper.LogOptions.{LogOptions}
use Rattle.rw_text.specs.declared.tool_fault.ToolFault.{ToolFault}
use Rattle.rw_text.specs.declared.tool_fault.ToolFault.TheVariants as tool
use Rattle.rw_send.specs.declared.follow_fault.FollowFault.{FollowFault}
use Rattle.rw_send.specs.declared.follow_fault.FollowFault.TheVariants as fault
use Rattle.rw_send.specs.declared.follow_fault.RunFault.{RunFault}
use Rattle.rw_send.specs.RunFaults.{answer_of}
use Rattle.rw_send.specs.Logs.{Seen, readers}
use Rattle.rw_send.specs.ReportText.{IsTextOf, WritesReportPart}
use Rattle.rw_send.specs.Sending.{IsSent, Prints}
use Rattle.rw_send.proofs.AnswerLemmas.{failed}

pub fault_is : (r : Result (Unit {0}) RunFault) (f : FollowFault) → IsErrAnd r (λ e. e ≡ record { fault = f; place = None }) → failed f ≡ answer_of r
fault_is (Ok u) f is = absurd is
fault_is (Err e) f is = ap (λ (x : RunFault). failed x.fault) (sym is)

abbrev pub tool_failed : ToolFault → Result (Unit {0}) ToolFault
tool_failed f = Err f

module _ {T : Type 0} (tells : T → Type 0) (seen : T → List Exchange) (is_for : ℕ → ℕ → T → Type 0) (c : ConfigFields) (limit : Option ℕ) (reading : LogOptions) (log : Seen) (quiet : Bool) (said : StopRequest)
    (before after : Option (List ℕ)) (same bad : Type 0) where
  -- with the answer of the run
  pub prints_all : (r : Report T) (answer : Result (Unit {0}) FollowFault) → IsSent tells seen is_for c limit reading log quiet said r answer → (text : List ℕ) × IsTextOf r text × Appends before after text
      → Prints tells seen is_for c limit reading log quiet said before after same bad answer
  prints_all r (Ok u) s p = record { report = r; sent = s; text = p.0; text_of = p.1; written = p.2 }
  prints_all r (Err (fault.Tool (tool.Log f))) s p = record { report = r; sent = s; text = p.0; text_of = p.1; written = p.2 }
  prints_all r (Err (fault.Tool tool.OutOfMemory)) s p = inr (record { report = r; sent = s; text = p.0; text_of = p.1; written = p.2 })
  prints_all r (Err (fault.Tool tool.Device)) s p = inl (record { report = r; sent = s; text = p.0; text_of = p.1; written = p.2 })
  prints_all r (Err (fault.Tool (tool.Line n))) s p = s.answers
  prints_all r (Err (fault.Tool tool.SegmentFull)) s p = s.answers
  prints_all r (Err (fault.Missing n)) s p = record { report = r; sent = s; text = p.0; text_of = p.1; written = p.2 }
  prints_all r (Err fault.Stopped) s p = record { report = r; sent = s; text = p.0; text_of = p.1; written = p.2 }

  -- or it could not be printed
  pub prints_part : (r : Report T) (answer : Result (Unit {0}) FollowFault) (f : ToolFault) → IsSent tells seen is_for c limit reading log quiet said r answer → (f ≡ tool.OutOfMemory) ⊎ (f ≡ tool.Device)
      → (tool_failed f ≡ tool_failed tool.OutOfMemory → same) → (tool_failed f ≡ tool_failed tool.Device → bad × WritesReportPart r before after)
      → Prints tells seen is_for c limit reading log quiet said before after same bad (Err (fault.Tool f))
  prints_part r answer f s (inl is) memory device =
      subst (λ (x : ToolFault). Prints tells seen is_for c limit reading log quiet said before after same bad (Err (fault.Tool x))) (sym is) (inl (memory (ap tool_failed is)))
  prints_part r answer f s (inr is) memory device =
      let d = device (ap tool_failed is) in
      subst (λ (x : ToolFault). Prints tells seen is_for c limit reading log quiet said before after same bad (Err (fault.Tool x))) (sym is) (inr (d.0, record { answer = answer; report = r; sent = s; part = d.1 }))

  pub prints_so : (answer result : Result (Unit {0}) FollowFault) → answer ≡ result → Prints tells seen is_for c limit reading log quiet said before after same bad answer → Prints tells seen is_for c limit reading log quiet said before after same bad result
  prints_so answer result e p = subst (λ (r : Result (Unit {0}) FollowFault). Prints tells seen is_for c limit reading log quiet said before after same bad r) e p

-- of the same readers
pub sure_so : {T S : Type 0} (tells : T → Type 0) (seen : T → List Exchange) (is_for : ℕ → ℕ → T → Type 0) (c : ConfigFields) (limit : Option ℕ) (reading : LogOptions) (quiet : Bool) (said : StopRequest) (before after : Option (List ℕ)) (same bad : Type 0)
    (lefts now : List (Option (List ℕ))) (sure : S → Bool) (q items : List S) (answer : Result (Unit {0}) FollowFault) → q ≡ items → Prints tells seen is_for c limit reading (readers lefts now (map sure q)) quiet said before after same bad answer
    → Prints tells seen is_for c limit reading (readers lefts now (map sure items)) quiet said before after same bad answer
sure_so {T} {S} tells seen is_for c limit reading quiet said before after same bad lefts now sure q items answer e p =
    subst (λ (xs : List S). Prints tells seen is_for c limit reading (readers lefts now (map sure xs)) quiet said before after same bad answer) e p

-- what holds at any rate holds at `Ok`
pub if_ok : {T E P : Type 0} (r : Result T E) → P → OnOk r P
if_ok (Ok x) p = p
if_ok (Err e) p = tt
