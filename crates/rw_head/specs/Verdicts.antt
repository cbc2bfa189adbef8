-- The verdict on a message: it is taken whole, or refused for the first reason that is met
-- (Remote-Write 1.0).
use Rattle.std.specs.Prelude.{ℕ, ◌-◌, Bool, ◌||◌, if◌then◌else◌, nat_lt, is_some, List, [], ◌∷◌, length, Option, Some, None, Result, Ok, Err}
use Rattle.rw_types.specs.Labels.{Labels, label_fault, text_len}
use Rattle.rw_types.specs.declared.names.Names.{Names}
use Rattle.rw_write_request.specs.Message.{TimeSeries, WriteRequest}
use Rattle.rw_head.specs.declared.verdict.Verdict.{Verdict}
use Rattle.rw_head.specs.declared.verdict.Verdict.TheVariants.{Stored, BadLabels, OverLimit, OutOfOrder}
use Rattle.rw_head.specs.Order.{Point, points, accept}
use Rattle.rw_head.specs.Store.{Store, list_of, with_list, total}

-- which label sets a head takes: which names they may have, and how large they may be
pub record LabelLimits : Type 0 where
  pub names : Names
  pub max_labels : ℕ
  pub max_label_bytes : ℕ

-- more labels, or more bytes of names and values
abbrev pub is_over_limits : LabelLimits → Labels → Bool
is_over_limits limits ls = nat_lt limits.max_labels (length ls) || nat_lt limits.max_label_bytes (text_len ls)

-- why a head does not take these labels
abbrev pub refusal : LabelLimits → Labels → Option Verdict
refusal limits ls =
    if is_some (label_fault limits.names ls) then Some BadLabels
    else (if is_over_limits limits ls then Some OverLimit
    else None)

abbrev pub accepted : Labels → Store → Option (List Point) → Result Store Verdict
accepted l store None = Err OutOfOrder
accepted l store (Some xs) = Ok (with_list l xs store)

abbrev pub taken_unless : Option Verdict → Store → TimeSeries → Result Store Verdict
taken_unless (Some v) store s = Err v
taken_unless None store s = accepted s.labels store (accept (Some (list_of store s.labels)) (points s.samples))

-- a series: first its labels, then the limits, then its samples
abbrev pub taken : LabelLimits → Store → TimeSeries → Result Store Verdict
taken limits store s = taken_unless (refusal limits s.labels) store s

abbrev pub taken_next : LabelLimits → Result Store Verdict → TimeSeries → Result Store Verdict
taken_next limits (Ok store) s = taken limits store s
taken_next limits (Err v) s = Err v

-- one series after the other
abbrev pub taken_all : LabelLimits → Result Store Verdict → WriteRequest → Result Store Verdict
taken_all limits r [] = r
taken_all limits r (s ∷ ss) = taken_all limits (taken_next limits r s) ss

-- a verdict, and the store after it
pub record Judged : Type 0 where
  pub verdict : Verdict
  pub store : Store

abbrev pub judged : Store → Result Store Verdict → Judged
judged store (Ok next) = record { verdict = Stored (total next - total store); store = next }
judged store (Err v) = record { verdict = v; store = store }

-- the verdict on a message, if memory suffices
abbrev pub apply : LabelLimits → Store → WriteRequest → Judged
apply limits store m = judged store (taken_all limits (Ok store) m)
