-- What a router knows, and what it returns.
use Rattle.std.specs.Prelude.{◌≡◌, ◌⊎◌, None, ℕ, suc, ℤ, List, [], ◌∷◌, ◌++◌}
use Rattle.std.specs.Arc.{arc_value}
use Rattle.rw_types.specs.Labels.{Labels, label_fault}
use Rattle.rw_types.specs.declared.entry.Entry.{Entry}
use Rattle.rw_types.specs.declared.entry.Entry.TheVariants.{Def, Sample}
use Rattle.rw_relabel.specs.declared.choice.Choice.{Choice}
use Rattle.rw_series_cache.specs.Cached.{Taken}
use Rattle.rw_series_cache.specs.Known.{Unknown, known, definitions_of}
use Rattle.rw_series_cache.specs.Numbers.{HasNumber, series_of}
use Rattle.rw_series_cache.specs.Rising.{IsNoted}
use Rattle.rw_series_cache.specs.Fates.{Fate, Drops, Filters, Sends, fate}
use Rattle.rw_series_cache.specs.declared.router.Routed.{Routed}
use Rattle.rw_series_cache.specs.declared.router.Routed.TheVariants as routed
use Rattle.rw_series_cache.specs.declared.sample.RoutedSample.{RoutedSample}

-- what is known of the series, and how many samples were placed whose series the rules drop
pub record Routing : Type 0 where
  pub cache : Taken
  pub filtered : ℕ

-- these entries were placed
pub record Knows (before : List Entry) (cache : Taken) : Type 0 where
  pub defined : definitions_of before ≡ cache.definitions
  pub noted : IsNoted cache.choice before cache.noted

-- the definition is one more
abbrev pub with_definition : Routing → Entry → Routing
with_definition r e = record r { cache = record r.cache { definitions = r.cache.definitions ++ e ∷ [] } }

-- this sample at this position, with its series' number and labels
pub record IsSampleRouted (choice : Choice) (before : List Entry) (pos : ℕ) (t : ℤ) (word : ℕ) (l : Labels) (s : RoutedSample) : Type 0 where
  pub pos_is : s.pos ≡ pos
  pub time : s.t ≡ t
  pub word_is : s.word ≡ word
  pub labels_are : arc_value s.labels ≡ l
  pub numbered : HasNumber (series_of choice before) l s.series

-- a sample by its fate: nothing changes before it is named, or put; one that the rules drop is
-- counted
abbrev pub RoutesAs : Routing → List Entry → ℕ → ℤ → ℕ → Fate → Routing → Routed → Type 0
RoutesAs old before pos t word (Drops reason) new (routed.Dropped found) = (found ≡ reason) × (new ≡ old)
RoutesAs old before pos t word Filters new routed.Placed = new ≡ record old { filtered = suc old.filtered }
RoutesAs old before pos t word (Sends l) new (routed.Sample s) = IsSampleRouted old.cache.choice before pos t word l s × (new ≡ old)
RoutesAs old before pos t word _ new _ = ⊥

abbrev pub Routes : Routing → List Entry → ℕ → Entry → Routing → Routed → Type 0
Routes old before pos (Def reference l) new found = (found ≡ routed.Placed) × (new ≡ with_definition old (Def reference l))
Routes old before pos (Sample reference t word) new found = RoutesAs old before pos t word (fate old.cache.choice before reference t) new found

-- an entry that is not sent is known from then on
abbrev pub KnowsMore : List Entry → Entry → Taken → Routed → Type 0
KnowsMore before e cache (routed.Sample s) = Unit {0}
KnowsMore before e cache _ = Knows (before ++ e ∷ []) cache

-- the entry is a sample that is sent: of the series of this number, at this time
abbrev pub IsSentNext : Choice → List Entry → Entry → ℕ → ℤ → Type 0
IsSentNext choice before (Def reference l) series t = ⊥
IsSentNext choice before (Sample reference u word) series t =
    (u ≡ t) × ((l : Labels) × (fate choice before reference t ≡ Sends l) × HasNumber (series_of choice before) l series)

-- such a sample may come next
pub record IsRising (cache : Taken) (series : ℕ) (t : ℤ) : Type 0 where
  pub before : List Entry
  pub entry : Entry
  pub knows : Knows before cache
  pub next : IsSentNext cache.choice before entry series t

-- a sample of this reference at this time would be sent, in the series of this number
abbrev pub WouldSend : Choice → List Entry → ℕ → ℤ → ℕ → Type 0
WouldSend choice before reference t series = (l : Labels) × (fate choice before reference t ≡ Sends l) × HasNumber (series_of choice before) l series

-- it would not be sent
abbrev pub WouldKeep : Choice → List Entry → ℕ → ℤ → Type 0
WouldKeep choice before reference t = (l : Labels) → fate choice before reference t ≡ Sends l → ⊥

-- Memory may run out for this entry: for a definition of a label set, for the first definition of
-- its reference, and for a sample that is sent.
abbrev pub TakesMemory : Choice → List Entry → Entry → Type 0
TakesMemory choice before (Def reference l) = (label_fault choice.names l ≡ None) ⊎ (known choice before reference ≡ Unknown)
TakesMemory choice before (Sample reference t word) = (l : Labels) × (fate choice before reference t ≡ Sends l)
