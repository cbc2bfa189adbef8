-- A log, read by a command: its entries and its fault.
use Rattle.std.proofs.Common.{◌≡◌, ◌≢◌, inl, inr, ℕ, List, [], ◌∷◌, ◌++◌, Bool, true, false, refl, sym, ◌∙◌, ap, subst, Option, Some, None, is_some, Result, Ok, Err}
use Rattle.std.specs.Io.KnownBytes.{Consumes}
use Rattle.std.specs.Result.{IfErr, IsErrAnd}
use Rattle.rw_follow.specs.Meals.{Meal}
use Rattle.rw_types.specs.declared.entry.Entry.{Entry}
use Rattle.rw_wal_format.specs.Pieces.{entries, fault}
use Rattle.rw_wal_format.specs.declared.tail_fault.TailFault.{TailFault}
use Rattle.rw_wal_format.specs.declared.tail_fault.TailFault.TheVariants as tail
use Rattle.rw_log_read.proofs.shared.LogLemmas.{fault_stays}
use Rattle.rw_log_read.specs.Logs.{ReadsInto, fault_in, log_in}
use Rattle.rw_wal_tail.specs.declared.place.Damage.{Damage}
use Rattle.rw_log_read.specs.declared.log_read.Segment.{Segment}
use Rattle.rw_text.specs.declared.tool_fault.ToolFault.{ToolFault}
use Rattle.rw_text.specs.declared.tool_fault.ToolFault.TheVariants.{OutOfMemory, Log, Line, SegmentFull, Device}
use Rattle.rw_text.specs.ToolFaults.{fault_of_log}
use Rattle.rw_log_commands.specs.Taking.{CannotRead, ReadsLogToFault, ReadsToFault, ReadsWhole}
use Rattle.rw_log_commands.specs.inner.Taking.{ReadsSegment, SaysFault, StopsReading, all_of_one, of_one}

-- a log without a fault was read
pub reads_whole : (c : Bool) (gave had_all : Meal → Type 0) (is_read : Type 0) (taken : List Entry) (rows : List Segment) (damage : Option Damage) → ReadsInto false c gave had_all is_read taken rows (fault_in damage) → damage ≡ None → ReadsWhole c gave had_all taken
reads_whole c gave had_all is_read taken rows damage h none =
    let i : ReadsInto false c gave had_all is_read taken rows None = subst (λ d. ReadsInto false c gave had_all is_read taken rows (fault_in d)) none h in
    record { fed = i.fed; gives = i.gives; whole = i.whole refl; sound = sym i.are.fault_is; all = i.are.all }

-- what is not there is none
pub none_there : {A : Type 0} (o : Option A) → is_some o ≡ false → o ≡ None
none_there None e = refl
none_there (Some x) e = absurd cc

-- a command says what fault a log has
says_there : (c : Bool) (gave : Meal → Type 0) (f : TailFault) → (f ≢ tail.OutOfMemory → ReadsLogToFault c f gave) → SaysFault c gave (fault_of_log f)
says_there c gave tail.OutOfMemory h = tt
says_there c gave tail.BadType h = h (λ e. cc)
says_there c gave tail.BadLength h = h (λ e. cc)
says_there c gave tail.BadCrc h = h (λ e. cc)
says_there c gave tail.Compressed h = h (λ e. cc)
says_there c gave tail.NonzeroPadding h = h (λ e. cc)
says_there c gave tail.Sequence h = h (λ e. cc)
says_there c gave tail.BadRecord h = h (λ e. cc)
says_there c gave tail.TornSegment h = h (λ e. cc)

pub says_so : (c : Bool) (gave : Meal → Type 0) (d : Damage) (e : ToolFault) → (d.fault ≢ tail.OutOfMemory → ReadsLogToFault c d.fault gave) → e ≡ fault_of_log d.fault → SaysFault c gave e
says_so c gave d e h from = subst (SaysFault c gave) (sym from) (says_there c gave d.fault h)

-- a command that answers a fault of the log has read the log up to it
pub says_log : (c : Bool) (gave : Meal → Type 0) (f : TailFault) (e : ToolFault) → (let answer : Result (Unit {0}) ToolFault = Err e in answer ≡ Err (Log f)) → SaysFault c gave e → ReadsLogToFault c f gave
says_log c gave f e is h =
    let same : e ≡ Log f = cc in
    subst (SaysFault c gave) same h

-- the damage of a log that was read is the fault that it has
pub damage_is_fault : (c : Bool) (gave had_all : Meal → Type 0) (is_read : Type 0) (taken : List Entry) (rows : List Segment) (damage : Option Damage) (d : Damage) → ReadsInto false c gave had_all is_read taken rows (fault_in damage) → damage ≡ Some d
    → d.fault ≢ tail.OutOfMemory → ReadsLogToFault c d.fault gave
damage_is_fault c gave had_all is_read taken rows damage d h is named = record {
  fed = h.fed;
  gives = h.gives;
  named = named;
  stays = λ more. fault_stays c h.fed.whole h.fed.begun more d.fault (sym h.are.fault_is ∙ ap fault_in is);
}

-- the same of what a plan answers
pub answers_fault : (c : Bool) (gave had_all : Meal → Type 0) (is_read : Type 0) (taken : List Entry) (rows : List Segment) (damage : Option Damage) (d : Damage) → ReadsInto false c gave had_all is_read taken rows (fault_in damage)
    → (let answer : Option Damage → Result (Option Damage) ToolFault = λ o. Ok o in answer damage ≡ answer (Some d)) → d.fault ≢ tail.OutOfMemory → ReadsLogToFault c d.fault gave
answers_fault c gave had_all is_read taken rows damage d h is named =
    let same : damage ≡ Some d = cc in
    damage_is_fault c gave had_all is_read taken rows damage d h same named

-- ---- a log of one segment

one_read : (a b : Option (List ℕ)) (whole : List (List ℕ)) (begun : List ℕ) → of_one a b (record { whole = whole; begun = begun }) → (whole ≡ []) × Consumes a b begun
one_read a b [] begun h = (refl, h.0)
one_read a b (t ∷ ts) begun h = absurd h

pub whole_segment : (c : Bool) (a b : Option (List ℕ)) (taken : List Entry) → ReadsWhole c (of_one a b) (all_of_one a b) taken → (segment : List ℕ) × ReadsSegment c None a b segment × (taken ≡ entries (log_in c (segment ∷ [])))
whole_segment c a b taken h =
    let one = one_read a b h.fed.whole h.fed.begun h.gives in (
      h.fed.begun,
      record { read = one.1; ended = h.whole.1; faulty = ap (λ xs. fault (log_in c (xs ++ h.fed.begun ∷ []))) (sym one.0) ∙ h.sound },
      h.all ∙ ap (λ xs. entries (log_in c (xs ++ h.fed.begun ∷ []))) one.0,
    )

pub segment_to_fault : (c : Bool) (f : TailFault) (a b : Option (List ℕ)) → ReadsLogToFault c f (of_one a b) → ReadsToFault c f a b
segment_to_fault c f a b h =
    let one = one_read a b h.fed.whole h.fed.begun h.gives in
    record { front = h.fed.begun; read = one.1; named = h.named; stays = λ more. ap (λ xs. fault (log_in c (xs ++ (h.fed.begun ++ more) ∷ []))) (sym one.0) ∙ h.stays more }

pub stops_segment : (c : Bool) (a b : Option (List ℕ)) (failed : Bool) (e : ToolFault) → SaysFault c (of_one a b) e → StopsReading c a b failed e
stops_segment c a b failed OutOfMemory h = tt
stops_segment c a b failed (Log f) h = segment_to_fault c f a b h
stops_segment c a b failed (Line line) h = absurd h
stops_segment c a b failed SegmentFull h = absurd h
stops_segment c a b failed Device h = absurd h

-- the device of a reader has failed, which lacks no segment
failed_one : (may : Type 0) (failed : Bool) → CannotRead may (failed ≡ true) (λ _. ⊥) → failed ≡ true
failed_one may failed (inl h) = h.1
failed_one may failed (inr h) = absurd h.1

pub stops_unread : {X : Type 0} (c : Bool) (a b : Option (List ℕ)) (failed : Bool) (may : Type 0) (e : ToolFault) → (let answer : ToolFault → Result X ToolFault = λ x. Err x in ((f : TailFault) → answer e ≡ answer (Log f) → ⊥) × ((n : ℕ) → answer e ≡ answer (Line n) → ⊥)
    × (answer e ≡ answer SegmentFull → ⊥) × (answer e ≡ answer Device → CannotRead may (failed ≡ true) (λ _. ⊥))) → StopsReading c a b failed e
stops_unread {X} c a b failed may OutOfMemory h = tt
stops_unread {X} c a b failed may (Log f) h = absurd (h.0 f refl)
stops_unread {X} c a b failed may (Line line) h = absurd (h.1 line refl)
stops_unread {X} c a b failed may SegmentFull h = absurd (h.2 refl)
stops_unread {X} c a b failed may Device h = failed_one may failed (h.3 refl)

-- ---- an error that is handed on

pub on_error : {X : Type 0} (r : Result X ToolFault) (f : ToolFault) (P : ToolFault → Type 0) → IsErrAnd r (λ g. g ≡ f) → P f → IfErr r P
on_error (Ok x) f P h p = tt
on_error (Err g) f P h p = subst P (sym h) p

pub same_error : {X : Type 0} (r : Result X ToolFault) (f e : ToolFault) → IsErrAnd r (λ g. g ≡ f) → r ≡ Err e → f ≡ e
same_error (Ok x) f e h is = absurd h
same_error (Err g) f e h is = let same : g ≡ e = cc in sym h ∙ same
