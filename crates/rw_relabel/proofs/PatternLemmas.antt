-- A compiled pattern finds what its text means.
use Rattle.std.proofs.Common.{◌≡◌, ℕ, ◌<◌, List, get_or, Option, Some, None, IsSomeAnd, is_some, refl, ◌∙◌}
use Rattle.std.specs.Str.{chars}
use Rattle.regex_hir.specs.Find.{find_str}
use Rattle.regex_syntax.specs.Grammar.{read}
use Rattle.regex_syntax.specs.Verdict.{Reads, default_config}
use Rattle.regex.specs.Strings.{regex_pattern, regex_source, regex_config, IsReadFromSource}
use Rattle.regex.specs.declared.string.regex.Regex.{Regex}
use Rattle.regex.proofs.OnLiterals.{IsReadAs, same_refl, is_match_as_written}
use Rattle.rw_relabel.specs.Patterns.{is_match}

-- bytes
abbrev pub AreBytes : List ℕ → Type 0
AreBytes text = (k : ℕ) → get_or text k 0 < 256

value_of_IsSomeAnd : {A : Type 0} (o : Option A) (P : A → Type 0) → IsSomeAnd o P → (x : A) × (o ≡ Some x)
value_of_IsSomeAnd None P p = absurd p
value_of_IsSomeAnd (Some x) P p = (x, refl)

-- a search by the compiled pattern is a search by what the grammar reads in its text
pub is_match_of_source : (r : Regex) → regex_config r ≡ default_config → IsReadFromSource r →
    (text : List ℕ) → AreBytes text →
    is_some (find_str (regex_pattern r) text 0) ≡ is_match (regex_source r) text
unfolding Reads
is_match_of_source r config was_read text bytes =
    let found = value_of_IsSomeAnd (read (regex_config r) (chars (regex_source r))) _ was_read in
    let same : read default_config (chars (regex_source r)) ≡ Some found.0 = rw (← config) found.1 in
    let written : IsReadAs default_config (regex_source r) found.0.0.value = rw same (same_refl _) in
    is_match_as_written r (regex_source r) found.0.0.value refl config was_read written text bytes 0
    ∙ rw same refl
