-- Segments in the place of the first ones of a journal.
use Rattle.std.specs.Prelude.{◌≡◌, ◌⊎◌, ℕ, List, ◌++◌, map, drop, Vec}
use Rattle.std.specs.declared.alloc.Global.{Global}
use Rattle.rw_kept_log.specs.Journal.{Segments}

-- the bytes of each text
abbrev pub texts_of : List (Vec ℕ Global) → Segments
texts_of texts = map (λ v. v.items) texts

-- the segments, with these texts in the place of the first n
abbrev pub with_first : ℕ → Segments → Segments → Segments
with_first n texts segments = texts ++ drop n segments

-- What a crash leaves while texts are being put in the place of the first n segments: all segments
-- as they were, or all that are to be.
abbrev pub IsWithFirst : ℕ → Segments → Segments → Segments → Type 0
IsWithFirst n texts old left = (left ≡ old) ⊎ (left ≡ with_first n texts old)
