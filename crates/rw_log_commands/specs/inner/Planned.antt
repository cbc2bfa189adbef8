-- Inner definitions beside those of Planned.antt: only invariants, private functions and
-- proofs use them.
use Rattle.std.specs.Prelude.{◌≡◌, ℕ, ◌+◌, List}
use Rattle.std.specs.FinMap.{empty}
use Rattle.rw_types.specs.declared.entry.Entry.{Entry}
use Rattle.rw_relabel.specs.declared.choice.Choice.{Choice}
use Rattle.rw_series_cache.specs.Cached.{Taken}
use Rattle.rw_series_cache.specs.Known.{Standing, Unknown, Bad, Filtered, Kept, definitions_of}
use Rattle.rw_series_cache.specs.declared.known.Known.{Known}
use Rattle.rw_series_cache.specs.declared.known.Known.TheVariants as found
use Rattle.rw_types.specs.Labels.{Labels}
use Rattle.rw_log_commands.specs.Plan.{plan_lines, standings, counts_of, kept_text, filtered_line}
use Rattle.rw_log_commands.specs.declared.counts.SampleCounts.{SampleCounts}

-- the cache has the definitions and notes nothing, and lines and counts are those of the entries
pub record IsPlanned (choice : Choice) (entries : List Entry) (cached : Taken) (text : List ℕ) (counted : SampleCounts) : Type 0 where
  pub cache : cached ≡ record { choice = choice; definitions = definitions_of entries; noted = empty }
  pub lines : text ≡ plan_lines choice entries
  pub counts : counted ≡ counts_of (standings choice entries)

-- the counts with one more sample of which this is known
abbrev pub with_sample : SampleCounts → Standing → SampleCounts
with_sample c (Kept l) = record c { kept = c.kept + 1 }
with_sample c Filtered = record c { filtered = c.filtered + 1 }
with_sample c (Bad f) = record c { bad = c.bad + 1 }
with_sample c Unknown = record c { noseries = c.noseries + 1 }

-- the line of a label set that was looked up
abbrev pub found_text : ℕ → Labels → Known → List ℕ
found_text reference l (found.Kept number labels) = kept_text reference number l
found_text reference l found.Unknown = filtered_line reference l
found_text reference l (found.Bad f) = filtered_line reference l
found_text reference l found.Filtered = filtered_line reference l
