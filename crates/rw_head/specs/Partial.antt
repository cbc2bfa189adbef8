-- What a head can take of a message: its samples one after the other, each judged as a message of
-- its own after those before it.
use Rattle.std.specs.Prelude.{is_some, if◌then◌else◌, List, [], ◌∷◌, ◌++◌, Result, Ok, Err}
use Rattle.rw_types.specs.Labels.{Labels}
use Rattle.rw_write_request.specs.Message.{Sample, TimeSeries, WriteRequest}
use Rattle.rw_head.specs.declared.verdict.Verdict.{Verdict}
use Rattle.rw_head.specs.Store.{Store}
use Rattle.rw_head.specs.Verdicts.{LabelLimits, refusal, taken, apply}

-- a series of one sample
abbrev pub one_of : Labels → Sample → TimeSeries
one_of l s = record { labels = l; samples = s ∷ [] }

-- what is held then: what is refused changes nothing
abbrev pub held_after : Store → Result Store Verdict → Store
held_after store (Ok next) = next
held_after store (Err v) = store

-- the sample, if it is taken
abbrev pub if_taken : Result Store Verdict → Sample → List Sample
if_taken (Ok next) s = s ∷ []
if_taken (Err v) s = []

-- the samples of a label set that are taken, one after the other
abbrev pub taken_samples : LabelLimits → Store → Labels → List Sample → List Sample
taken_samples limits store l [] = []
taken_samples limits store l (s ∷ ss) =
    if_taken (taken limits store (one_of l s)) s ++ taken_samples limits (held_after store (taken limits store (one_of l s))) l ss

-- what is held after them
abbrev pub held_with : LabelLimits → Store → Labels → List Sample → Store
held_with limits store l [] = store
held_with limits store l (s ∷ ss) = held_with limits (held_after store (taken limits store (one_of l s))) l ss

-- the series with the samples that are taken; nothing, if its labels are refused
abbrev pub takeable_series : LabelLimits → Store → TimeSeries → WriteRequest
takeable_series limits store s =
    if is_some (refusal limits s.labels) then []
    else record { labels = s.labels; samples = taken_samples limits store s.labels s.samples } ∷ []

-- the message with the samples that are taken, and without the series whose labels are refused
abbrev pub takeable : LabelLimits → Store → WriteRequest → WriteRequest
takeable limits store [] = []
takeable limits store (s ∷ ss) =
    takeable_series limits store s ++ takeable limits (held_with limits store s.labels s.samples) ss

-- what a head holds that was asked for these samples of a label set one by one, and for those of a
-- message, whatever it answered
abbrev pub store_one_by_one : LabelLimits → Store → Labels → List Sample → Store
store_one_by_one limits store l [] = store
store_one_by_one limits store l (s ∷ ss) = store_one_by_one limits (apply limits store (one_of l s ∷ [])).store l ss

abbrev pub store_by_samples : LabelLimits → Store → WriteRequest → Store
store_by_samples limits store [] = store
store_by_samples limits store (s ∷ ss) = store_by_samples limits (store_one_by_one limits store s.labels s.samples) ss
