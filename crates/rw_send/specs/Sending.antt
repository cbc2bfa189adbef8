-- What a run of the command `send` does, to the present end of a log or as it grows.
use Rattle.std.specs.Prelude.{◌≡◌, ◌⊎◌, ℕ, ◌≤◌, Bool, true, false, List, [], length, Option, None, Some, IsSome, Result, Ok, Err, IsOk, ⊤}
use Rattle.std.specs.Io.KnownBytes.{Appends}
use Rattle.rw_types.specs.Labels.{Labels}
use Rattle.rw_wal_format.specs.Pieces.{Piece}
use Rattle.rw_plain_queue.specs.declared.item.Kind.TheVariants.{Orderly, Hard}
use Rattle.rw_shard_core.specs.Configs.{choice_of}
use Rattle.rw_shard_core.specs.declared.config.ConfigFields.{ConfigFields}
use Rattle.rw_shard_core.specs.declared.outcome.Outcome.{Outcome}
use Rattle.rw_shard_core.specs.declared.outcome.Outcome.TheVariants as outcome
use Rattle.rw_worker.specs.Transcript.{Exchange}
use Rattle.rw_fleet.specs.Fleets.{EndBy}
use Rattle.rw_sender.specs.Feeders.{log_of}
use Rattle.rw_sender.specs.Placement.{IsShardCount}
use Rattle.rw_sender.specs.Reports.{IsAbandoned, ListsCut, workers_of}
use Rattle.rw_sender.specs.Shipping.{Shipping, PlacesAll, HasStopped}
use Rattle.rw_sender.specs.declared.report.Report.{Report}
use Rattle.rw_sender.specs.declared.shipper.LogOptions.{LogOptions}
use Rattle.rw_text.specs.declared.tool_fault.ToolFault.{ToolFault}
use Rattle.rw_text.specs.declared.tool_fault.ToolFault.TheVariants as tool
use Rattle.rw_types.specs.declared.transfer.ReadFault.TheVariants as read
use Rattle.rw_follow.specs.Meals.{Meal}
use Rattle.rw_follow.specs.declared.signal.StopRequest.{StopRequest}
use Rattle.rw_follow.specs.declared.signal.StopRequest.TheVariants as request
use Rattle.rw_send.specs.declared.follow_fault.FollowFault.{FollowFault}
use Rattle.rw_send.specs.declared.follow_fault.FollowFault.TheVariants as fault
use Rattle.rw_send.specs.EpochSizes.{HasEpochSizes}
use Rattle.rw_send.specs.Logs.{GaveNothing, HasGivenMore, IsAlmostRead, Seen}
use Rattle.rw_send.specs.ReportText.{IsTextOf, WritesReportPart}
use Rattle.rw_send.specs.Segments.{IsShortLog, AreSoundButLast, meal_of}
use Rattle.rw_send.specs.Steps.{HasComeTo, HasLapped, HasLastEpoch, HasStarted}

-- the clock asks for nothing but a stop, and no bound divides a segment into epochs
abbrev pub is_undivided : (max_skew : Option ℕ) → (quiet : Bool) → Bool
is_undivided None quiet = quiet
is_undivided (Some most) quiet = false

-- the shards were ended in order; or at once, since the shipper failed or for this cause, and then
-- work is abandoned
abbrev pub EndsFor : {T : Type 0} → (cause : Type 0) → Shipping T → Report T → Type 0
EndsFor cause s r =
    EndBy Orderly s.fleet (workers_of r)
    ⊎ (EndBy Hard s.fleet (workers_of r) × IsAbandoned r.outcome × (IsSome s.fault ⊎ cause))

-- work is abandoned only if a worker was cut, the shipper failed, or for this cause
abbrev pub IsCutFor : {T : Type 0} → (cause : Type 0) → Shipping T → Report T → Type 0
IsCutFor cause s r =
    IsAbandoned r.outcome → ListsCut (workers_of r) ⊎ (IsSome s.fault ⊎ cause)

-- A shipper that was configured so, with these external labels, and with this limit in bytes while
-- it has not failed, was fed these pieces, none after the first with a fault, and this is the
-- report of its stop: in order, unless it failed or there was this cause to stop at once. The
-- shards were put what was placed, which is all that was fed unless it failed.
pub record IsReportOf {T : Type 0} (tells : T → Type 0) (seen : T → List Exchange) (is_for : ℕ → ℕ → T → Type 0) (c : ConfigFields) (limit : Option ℕ) (labels : Labels) (cause : Type 0) (pieces : List Piece) (r : Report T) : Type 0 where
  pub shipping : Shipping T
  pub choice : shipping.log.choice ≡ choice_of c
  pub labels_are : shipping.log.labels ≡ labels
  pub config : shipping.fleet.config ≡ record c { rules = [] }
  pub limit_is : shipping.fault ≡ None → shipping.limit ≡ limit
  pub pieces_are : shipping.log.pieces ≡ pieces
  pub but_last : AreSoundButLast pieces
  pub stopped : HasStopped tells seen is_for shipping r
  pub placed : PlacesAll shipping.log shipping.fleet
  pub read : shipping.fault ≡ None → shipping.log.placed ≡ log_of shipping.log
  pub ended : EndsFor cause shipping r
  pub cut : IsCutFor cause shipping r
  pub failed : IsSome shipping.fault → IsAbandoned r.outcome
  pub number : shipping.fault ≡ None → IsShardCount (length shipping.fleet.current)
  pub last : HasLastEpoch shipping
  pub capacity : 1 ≤ c.capacity
  pub batch : 1 ≤ c.batch

abbrev pub IsComplete : Outcome → Type 0
IsComplete (outcome.Complete end) = ⊤
IsComplete (outcome.Abandoned placed samples) = ⊥
IsComplete (outcome.Damaged f) = ⊥

-- it was asked to finish, and everything that was there was fed
abbrev pub HasFedAll : Seen → StopRequest → Meal → Type 0
HasFedAll log said fed = (said ≡ request.Finish) × log.had_all fed

-- How a run answers whose report has this outcome: all is well only if it was asked to finish,
-- everything that was there was fed and the outcome is complete; a fault of the log is that of the
-- outcome; and otherwise the work is abandoned: for a device only if reads may fail, for a missing
-- segment only if the log lacks it, and at once only if that was asked for.
abbrev pub Answers : Seen → StopRequest → Meal → Outcome → Result (Unit {0}) FollowFault → Type 0
Answers log said fed o (Ok u) = IsComplete o × HasFedAll log said fed
Answers log said fed o (Err (fault.Tool (tool.Log f))) = o ≡ outcome.Damaged f
Answers log said fed o (Err (fault.Tool tool.OutOfMemory)) = IsAbandoned o
Answers log said fed o (Err (fault.Tool tool.Device)) = IsAbandoned o × log.may_fail read.Failed
Answers log said fed o (Err (fault.Tool (tool.Line n))) = ⊥
Answers log said fed o (Err (fault.Tool tool.SegmentFull)) = ⊥
Answers log said fed o (Err (fault.Missing n)) = IsAbandoned o × log.lacks n
Answers log said fed o (Err fault.Stopped) = IsAbandoned o × (said ≡ request.Abort)

-- Why a run that answers so was stopped at once: memory ran out for bytes that the log has returned
-- or in a call of it, a read failed, a segment is missing, or it was asked to.
abbrev pub StopsAtOnce : Seen → StopRequest → Meal → Result (Unit {0}) FollowFault → Type 0
StopsAtOnce log said fed (Ok u) = ⊥
StopsAtOnce log said fed (Err (fault.Tool (tool.Log f))) = ⊥
StopsAtOnce log said fed (Err (fault.Tool tool.OutOfMemory)) =
    HasGivenMore log fed ⊎ log.may_fail read.OutOfMemory
StopsAtOnce log said fed (Err (fault.Tool tool.Device)) = log.may_fail read.Failed
StopsAtOnce log said fed (Err (fault.Tool (tool.Line n))) = ⊥
StopsAtOnce log said fed (Err (fault.Tool tool.SegmentFull)) = ⊥
StopsAtOnce log said fed (Err (fault.Missing n)) = log.lacks n
StopsAtOnce log said fed (Err fault.Stopped) = said ≡ request.Abort

-- What was read of this log, which is read so, was shipped in order, in short pieces, with the end
-- of a segment between two, and nothing else; with this report and this answer. While the shipper
-- had not failed each epoch had as many shards as are configured, and if the watch asked for
-- nothing but to stop (`quiet`), their number was set after each segment and at no other time, and
-- nothing was done if the log gave nothing. A run that was asked to end at once does not say that
-- memory ran out.
pub record IsSent {T : Type 0} (tells : T → Type 0) (seen : T → List Exchange)
    (is_for : ℕ → ℕ → T → Type 0) (c : ConfigFields) (limit : Option ℕ)
    (reading : LogOptions) (log : Seen) (quiet : Bool) (said : StopRequest) (r : Report T)
    (answer : Result (Unit {0}) FollowFault) : Type 0 where
  pub pieces : List Piece
  pub begins : IsAlmostRead log.gave (meal_of pieces)
  pub short : IsShortLog reading.may_compress pieces
  pub report : IsReportOf tells seen is_for c limit reading.labels
      (StopsAtOnce log said (meal_of pieces) answer) pieces r
  pub sizes : report.shipping.fault ≡ None
      → HasEpochSizes c.shards c.min_shards c.max_shards report.shipping.fleet
  pub started : Shipping T
  pub start : HasStarted c limit reading.may_compress started
  pub laps : quiet ≡ true → HasComeTo c.min_shards c.max_shards log.gave (meal_of pieces)
      started report.shipping
  pub lapped : IsOk answer → quiet ≡ true → HasLapped c.min_shards c.max_shards
      (length (meal_of pieces).whole) started report.shipping
  pub idle : quiet ≡ true → GaveNothing log.gave → report.shipping ≡ started
  pub answers : Answers log said (meal_of pieces) r.outcome answer
  pub heeds : answer ≡ Err (fault.Tool tool.OutOfMemory) → said ≡ request.Abort → ⊥

-- and the text of the report was written
pub record IsPrinted {T : Type 0} (tells : T → Type 0) (seen : T → List Exchange)
    (is_for : ℕ → ℕ → T → Type 0) (c : ConfigFields) (limit : Option ℕ)
    (reading : LogOptions) (log : Seen) (quiet : Bool) (said : StopRequest)
    (before after : Option (List ℕ)) (answer : Result (Unit {0}) FollowFault) : Type 0 where
  pub report : Report T
  pub sent : IsSent tells seen is_for c limit reading log quiet said report answer
  pub text : List ℕ
  pub text_of : IsTextOf report text
  pub written : Appends before after text

-- a prefix of it was written
pub record IsPrintedPart {T : Type 0} (tells : T → Type 0) (seen : T → List Exchange)
    (is_for : ℕ → ℕ → T → Type 0) (c : ConfigFields) (limit : Option ℕ)
    (reading : LogOptions) (log : Seen) (quiet : Bool) (said : StopRequest)
    (before after : Option (List ℕ)) : Type 0 where
  pub answer : Result (Unit {0}) FollowFault
  pub report : Report T
  pub sent : IsSent tells seen is_for c limit reading log quiet said report answer
  pub part : WritesReportPart report before after

-- What a run that answers so has written: its report; nothing, if memory ran out before there was a
-- report or for its text (`same`); or a prefix of it, if the writer has failed.
abbrev pub Prints : {T : Type 0} (tells : T → Type 0) (seen : T → List Exchange)
    (is_for : ℕ → ℕ → T → Type 0) (c : ConfigFields) (limit : Option ℕ)
    (reading : LogOptions) (log : Seen) (quiet : Bool) (said : StopRequest)
    (before after : Option (List ℕ)) (same failed : Type 0)
    → Result (Unit {0}) FollowFault → Type 0
Prints tells seen is_for c limit reading log quiet said before after same failed (Ok u) =
    IsPrinted tells seen is_for c limit reading log quiet said before after (Ok u)
Prints tells seen is_for c limit reading log quiet said before after same failed (Err (fault.Tool (tool.Log f))) =
    IsPrinted tells seen is_for c limit reading log quiet said before after (Err (fault.Tool (tool.Log f)))
Prints tells seen is_for c limit reading log quiet said before after same failed (Err (fault.Tool tool.OutOfMemory)) =
    same ⊎ IsPrinted tells seen is_for c limit reading log quiet said before after (Err (fault.Tool tool.OutOfMemory))
Prints tells seen is_for c limit reading log quiet said before after same failed (Err (fault.Tool tool.Device)) =
    IsPrinted tells seen is_for c limit reading log quiet said before after (Err (fault.Tool tool.Device))
    ⊎ (failed × IsPrintedPart tells seen is_for c limit reading log quiet said before after)
Prints tells seen is_for c limit reading log quiet said before after same failed (Err (fault.Tool (tool.Line n))) = ⊥
Prints tells seen is_for c limit reading log quiet said before after same failed (Err (fault.Tool tool.SegmentFull)) = ⊥
Prints tells seen is_for c limit reading log quiet said before after same failed (Err (fault.Missing n)) =
    IsPrinted tells seen is_for c limit reading log quiet said before after (Err (fault.Missing n))
Prints tells seen is_for c limit reading log quiet said before after same failed (Err fault.Stopped) =
    IsPrinted tells seen is_for c limit reading log quiet said before after (Err fault.Stopped)

-- an answer of `run_send` as one of a log that may grow
abbrev pub as_answer : Result (Unit {0}) ToolFault → Result (Unit {0}) FollowFault
as_answer (Ok u) = Ok u
as_answer (Err f) = Err (fault.Tool f)
