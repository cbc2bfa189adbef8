-- Inner definitions beside those of SettingsText.antt: only invariants, private functions and
-- proofs use them.
use Rattle.std.specs.Prelude.{map, string_bytes}
use Rattle.rw_settings.specs.Values.{Setting, of_number, of_text, of_texts}
use Rattle.rw_settings.specs.declared.printed_values.Shown.{Shown}

abbrev pub setting_of : Shown → Setting
setting_of (Shown.Number n) = of_number n
setting_of (Shown.Text t) = of_text t.now
setting_of (Shown.Texts ts) = of_texts (map string_bytes ts.now)
