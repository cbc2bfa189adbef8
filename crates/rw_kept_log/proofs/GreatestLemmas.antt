-- The greatest reference, one more entry at a time.
use Rattle.std.proofs.Common.{◌≡◌, ℕ, List, [], ◌∷◌, ◌++◌, sym, ap, ◌∙◌}
use Rattle.std.proofs.lemmas.List.Sums.{fold-append}
use Rattle.rw_types.specs.declared.entry.Entry.{Entry}
use Rattle.rw_kept_log.specs.Reading.{greater, greatest_after}

pub greatest_more : (taken now : List Entry) (e : Entry) (n m : ℕ) → n ≡ greatest_after 0 taken → m ≡ greater n e → now ≡ taken ++ e ∷ [] → m ≡ greatest_after 0 now
greatest_more taken now e n m h up is = up ∙ ap (λ (k : ℕ). greater k e) h ∙ sym (ap (greatest_after 0) is ∙ fold-append greater 0 taken (e ∷ []))
