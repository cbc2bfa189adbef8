-- What the text of a pattern means to the regex crate.
use Rattle.std.specs.Prelude.{◌≢◌, ◌⊎◌, ℕ, List, ◌++◌, Bool, Option, Some, None, false, is_some, codes, chars}
use Rattle.regex_hir.specs.Find.{find_str}
use Rattle.regex_hir.specs.Re.{Re}
use Rattle.regex_syntax.specs.Brackets.{Nested}
use Rattle.regex_syntax.specs.Grammar.{Names, read}
use Rattle.regex_syntax.specs.Verdict.{default_config}
use Rattle.regex.specs.Failures.{IsPattern}
use Rattle.regex.specs.Strings.{IsDefaultFailure}
use Rattle.regex.specs.declared.error.Error.{Error}
use Rattle.regex.specs.declared.error.Error.TheVariants.{Internal, OutOfMemory}

-- the pattern as it is used: from the start to the end of a text, with `.` for a newline too
abbrev pub anchored : List ℕ → List ℕ
anchored pattern = codes "^(?s:" ++ pattern ++ codes ")$"

-- the text is a regular expression that the crate's grammar reads, within its limit on nesting
unfoldable pub IsReadable : List ℕ → Type 0
IsReadable pattern = IsPattern default_config pattern

-- The crate has an error for the text that is not about memory: by its clauses the text is not
-- readable, or it is and takes too much room.
unfoldable pub IsRefused : List ℕ → Type 0
IsRefused pattern = (error : Error) × (error ≢ OutOfMemory) × (error ≢ Internal) × IsDefaultFailure pattern error

-- the pattern can be read, and so can the form in which it is used
abbrev pub HasReadablePattern : List ℕ → Type 0
HasReadablePattern pattern = IsReadable pattern × IsReadable (anchored pattern)

-- the pattern is refused, or the form in which it is used
abbrev pub IsRefusedPattern : List ℕ → Type 0
IsRefusedPattern pattern = IsRefused pattern ⊎ (IsReadable pattern × IsRefused (anchored pattern))

-- what was read is found somewhere in the text
abbrev pub is_found_in : List ℕ → Option (Nested Re × Names) → Bool
is_found_in text None = false
is_found_in text (Some (re, _)) = is_some (find_str re.value text 0)

-- a pattern matches a text: what the grammar reads in the pattern is found in it
abbrev pub is_match : List ℕ → List ℕ → Bool
is_match pattern text = is_found_in text (read default_config (chars pattern))

-- the pattern matches the whole text
abbrev pub matches_whole : List ℕ → List ℕ → Bool
matches_whole pattern = is_match (anchored pattern)
