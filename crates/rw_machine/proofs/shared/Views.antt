-- Notions of the proofs: names and stores as functions, and a batch's message as series of points.
use Rattle.std.specs.Prelude.{◌≡◌, ℕ, ℤ, Bool, true, false, ◌&&◌, if◌then◌else◌, List, [], ◌∷◌, ◌++◌, length, map, filter, not, Option, Some, None, is_some, is_none, ◌==◌, nat_le}
use Rattle.std.specs.List.{list_all}
use Rattle.rw_types.specs.Labels.{Labels, label_fault}
use Rattle.rw_types.specs.LabelOrder.{labels_eq}
use Rattle.rw_types.specs.declared.entry.Entry.{Entry}
use Rattle.rw_types.specs.declared.entry.Entry.TheVariants.{Def, Sample}
use Rattle.rw_relabel.specs.Rules.{keeps}
use Rattle.rw_series_cache.specs.Known.{Standing, Unknown, Bad, Filtered, Kept, known}
use Rattle.rw_series_cache.specs.Points.{kept_points}
use Rattle.rw_series_cache.specs.Rising.{rises}
use Rattle.rw_ledger.specs.declared.ledger.Reason.{Reason}
use Rattle.rw_plain_queue.specs.Items.{Placed}
use Rattle.rw_batch.specs.Grouping.{distinct}
use Rattle.rw_shard_core.specs.Shard.{body_of}
use Rattle.rw_shard_core.specs.Shard as core
use Rattle.rw_head.specs.Verdicts.{LabelLimits, refusal}
use Rattle.rw_machine.specs.Shards.{Shard, with_core}
use Rattle.rw_machine.specs.Worlds.{Setup}
use Rattle.rw_machine.specs.Promises.{LoggedPoint}
use Rattle.rw_machine.proofs.Risen.{risen}

-- a label set that the rules keep
abbrev pub IsKept : Setup → Labels → Type 0
IsKept c l = (label_fault c.choice.names l ≡ None) × (keeps c.choice.rules l ≡ true)

-- its samples in a log
abbrev pub logged_points : Setup → Labels → List Entry → List LoggedPoint
logged_points c l es = kept_points c.choice es l

-- those of them that rise
abbrev pub points : Setup → Labels → List Entry → List LoggedPoint
points c l es = risen (logged_points c l es)

abbrev pub is_of : Labels → Standing → Bool
is_of l Unknown = false
is_of l (Bad f) = false
is_of l Filtered = false
is_of l (Kept m) = labels_eq l m

-- the sample that an entry adds to its samples, after the entries before it
abbrev pub logged_of : Setup → Labels → List Entry → Entry → List LoggedPoint
logged_of c l before (Def r m) = []
logged_of c l before (Sample r t word) = if is_of l (known c.choice before r) then (length before, t, word) ∷ [] else []

-- those that further entries add
abbrev pub logged_from : Setup → Labels → List Entry → List Entry → List LoggedPoint
logged_from c l before [] = []
logged_from c l before (e ∷ es) = logged_of c l before e ++ logged_from c l (before ++ e ∷ []) es

-- the sample that an entry adds to those that rise
abbrev pub point_of : Setup → Labels → List Entry → Entry → List LoggedPoint
point_of c l before (Def r m) = []
point_of c l before (Sample r t word) = if is_of l (known c.choice before r) && rises c.choice before l t then (length before, t, word) ∷ [] else []

-- those that further entries add
abbrev pub points_from : Setup → Labels → List Entry → List Entry → List LoggedPoint
points_from c l before [] = []
points_from c l before (e ∷ es) = point_of c l before e ++ points_from c l (before ++ e ∷ []) es

abbrev pub Ledger : Type 0
Ledger = ℕ → Option Reason

abbrev pub named_at : ℕ → Reason → Ledger → Ledger
named_at p reason ledger q = if p == q then Some reason else ledger q

abbrev pub owed_by : Ledger → List LoggedPoint → List LoggedPoint
owed_by ledger ps = filter (λ (p : LoggedPoint). is_none (ledger p.0)) ps

abbrev pub Pairs : Type 0
Pairs = List (ℤ × ℕ)

abbrev pub Store : Type 0
Store = Labels → List (ℤ × ℕ)

-- a series of a message, with its samples as points
pub record Series : Type 0 where
  pub labels : Labels
  pub samples : List (ℤ × ℕ)

-- the samples of a label set
abbrev pub of : Labels → List Placed → List Placed
of l = filter (λ (x : Placed). labels_eq l x.labels)

abbrev pub pairs : List Placed → List (ℤ × ℕ)
pairs = map (λ (x : Placed). (x.t, x.word))

abbrev pub series_of : List Placed → Labels → Series
series_of batch l = record { labels = l; samples = pairs (of l batch) }

abbrev pub message : List Placed → List Series
message batch = map (series_of batch) (distinct (map (λ (x : Placed). x.labels) batch))

-- the receiver's limits let the batch in, at whatever time
-- the receiver does not take the labels, whatever the samples
abbrev pub is_refused : LabelLimits → Labels → Bool
is_refused limits l = is_some (refusal limits l)

abbrev pub is_fit : LabelLimits → List Series → Bool
is_fit limits m = list_all (λ (s : Series). not (is_refused limits s.labels)) m

abbrev pub is_let_in : Setup → List Placed → Bool
is_let_in c batch = nat_le (length (body_of batch)) c.max_body && is_fit c.limits (message batch)

abbrev pub shard_again : Shard → Shard
shard_again = with_core core.again

abbrev pub shard_resolve : Shard → Shard
shard_resolve = with_core core.resolve
