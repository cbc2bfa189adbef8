-- What a receiver holds as text, with decimals.
use Rattle.std.specs.Prelude.{◌≡◌, ℕ, List, [], ◌∷◌, ◌++◌, codes}
use Rattle.std.specs.Fmt.{signed_decimal}
use Rattle.rw_types.specs.Labels.{Labels}
use Rattle.rw_text.specs.LabelText.{labels_text}
use Rattle.rw_head.specs.Order.{Point}
use Rattle.rw_head.specs.Store.{Store, held_series}
use Rattle.rw_decimal.specs.Decimals.{IsDecimalText}
use Rattle.rw_decimal.specs.Parts.{AreParts}

-- ` T=VALUE`
abbrev pub IsPointText : Point → List ℕ → Type 0
IsPointText p text = (value : List ℕ) × (text ≡ 32 ∷ signed_decimal p.0 ++ 61 ∷ value) × IsDecimalText p.1 value

-- `received LABELS` and the samples
abbrev pub IsReceivedText : Labels × List Point → List ℕ → Type 0
IsReceivedText series text =
    (points : List ℕ) × (text ≡ codes "received " ++ labels_text series.0 ++ points ++ 10 ∷ []) × AreParts IsPointText series.1 points

-- what a receiver holds: a line for each label set with samples, by byte order of the label sets'
-- lists of (name, value)
abbrev pub IsStoreText : Store → List ℕ → Type 0
IsStoreText store text = AreParts IsReceivedText (held_series store) text
