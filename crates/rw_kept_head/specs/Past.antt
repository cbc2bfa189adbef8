-- A head that lacks old samples, beside one that holds everything.
use Rattle.std.specs.Prelude.{◌≡◌, ◌⊎◌, ℤ, int_lt, true, false, List, [], ◌∷◌, ◌++◌, None, Some, Result, Ok, Err}
use Rattle.rw_types.specs.Labels.{Labels}
use Rattle.rw_write_request.specs.Message.{WriteRequest}
use Rattle.rw_write_request.specs.declared.fault.WireFault.{WireFault}
use Rattle.rw_kept_log.specs.Checkpoints.{AreNotAfter}
use Rattle.rw_head.specs.Growth.{EachRises}
use Rattle.rw_head.specs.Head.{Answer, State}
use Rattle.rw_head.specs.Order.{Point, accept_one, points}
use Rattle.rw_head.specs.Store.{Store, list_of}
use Rattle.rw_head.specs.Verdicts.{LabelLimits, refusal, taken}

-- Of each label set the second store lacks these first samples of the first store, and nothing
-- else. None of them is later than the floor.
pub record Lacks (floor : ℤ) (gone : Labels → List Point) (whole held : Store) : Type 0 where
  pub lists : (l : Labels) → list_of whole l ≡ gone l ++ list_of held l
  pub below : (l : Labels) → AreNotAfter floor (gone l)
  pub rises : EachRises whole

-- the second head is the first one, but lacks these samples
pub record IsHeadWithout (floor : ℤ) (gone : Labels → List Point) (whole held : State) : Type 0 where
  pub lacks : Lacks floor gone whole.store held.store
  pub limits : whole.limits ≡ held.limits
  pub busy : whole.busy ≡ held.busy

-- Whether a sample can be judged without those that are gone: it is later than the floor, or not
-- earlier than the first sample that is held.
abbrev pub CanJudge : ℤ → List Point → Point → Type 0
CanJudge floor [] p = int_lt floor p.0 ≡ true
CanJudge floor (x ∷ xs) p = (int_lt floor p.0 ≡ true) ⊎ (int_lt p.0 x.0 ≡ false)

-- samples that come one after the other can be judged, up to the first one that is refused
abbrev pub CanJudgeEach : ℤ → List Point → List Point → Type 0
CanJudgeEach floor held [] = Unit {0}
CanJudgeEach floor held (p ∷ ps) =
    CanJudge floor held p × ((next : List Point) → accept_one held p ≡ Some next → CanJudgeEach floor next ps)

-- so can those of a message, up to the first series that is refused
abbrev pub CanJudgeAll : LabelLimits → ℤ → Store → WriteRequest → Type 0
CanJudgeAll limits floor store [] = Unit {0}
CanJudgeAll limits floor store (s ∷ ss) =
    (refusal limits s.labels ≡ None → CanJudgeEach floor (list_of store s.labels) (points s.samples))
    × ((next : Store) → taken limits store s ≡ Ok next → CanJudgeAll limits floor next ss)

-- the same of what was read of a body: one that is no message has no sample
abbrev pub CanJudgeBody : ℤ → State → Result WriteRequest WireFault → Type 0
CanJudgeBody floor head (Ok m) = CanJudgeAll head.limits floor head.store m
CanJudgeBody floor head (Err e) = Unit {0}

-- two heads answer alike: the status is the same, and then the second head lacks what it lacked
pub record AnswerAlike (floor : ℤ) (gone : Labels → List Point) (whole held : Answer) : Type 0 where
  pub status : whole.status ≡ held.status
  pub head : IsHeadWithout floor gone whole.head held.head
