-- Queues with more samples, cut by a limit.
use Rattle.std.proofs.Common.{◌≡◌, inl, inr, ℕ, ◌+◌, ◌-◌, ◌≤◌, List, [], ◌∷◌, ◌++◌, Bool, true, false, refl, sym, subst, zero-add, arith}
use Rattle.std.specs.Prelude.{Some}
use Rattle.std.proofs.lemmas.Bool.Decides.{nat_tests}
use Rattle.rw_plain_queue.specs.declared.item.Item.{Item}
use Rattle.rw_plain_queue.specs.declared.item.Item.TheVariants as item
use Rattle.rw_sender.specs.Sizes.{size_of_sample}
use Rattle.rw_sender.proofs.SizeLemmas.{bytes_some}
use Rattle.rw_sender.specs.Marking.{bytes_after, open_bytes, AreOnlySamples, is_over_mark, behind_cut, counted_with, with_cuts, WithinFrom, StaysWithinLimit}

within_append : (limit n : ℕ) (xs ys : List Item) → WithinFrom limit n xs → WithinFrom limit (bytes_after n xs) ys → WithinFrom limit n (xs ++ ys)
within_append limit n [] ys h g = g
within_append limit n (item.Sample p t w l ∷ xs) ys h g = (h.0, within_append limit (n + size_of_sample l.value (w, t)) xs ys h.1 g)
within_append limit n (item.Flush ∷ xs) ys h g = within_append limit 0 xs ys h g
within_append limit n (item.End k ∷ xs) ys h g = within_append limit 0 xs ys h g

fits_so : (limit n b : ℕ) → 1 ≤ b → is_over_mark (Some limit) n b ≡ false → n + b ≤ limit
fits_so limit n b some h = let le : b ≤ limit - n = grind (arith, nat_tests) in omega arith

cuts_within : (limit n : ℕ) (xs : List Item) → AreOnlySamples xs → WithinFrom limit n (with_cuts (Some limit) n xs)
cuts_within limit n [] h = tt
cuts_within limit n (item.Sample p t w l ∷ xs) h =
    by_fit (λ m. cuts_within limit m xs h) (is_over_mark (Some limit) n (size_of_sample l.value (w, t))) refl
  where
    by_fit : ((m : ℕ) → WithinFrom limit m (with_cuts (Some limit) m xs)) → (over : Bool) → is_over_mark (Some limit) n (size_of_sample l.value (w, t)) ≡ over
        → WithinFrom limit n (behind_cut over (item.Sample p t w l) ++ with_cuts (Some limit) (counted_with over n (size_of_sample l.value (w, t))) xs)
    by_fit rest true is = (inl refl, subst (λ m. WithinFrom limit m (with_cuts (Some limit) (size_of_sample l.value (w, t)) xs)) (sym (zero-add (size_of_sample l.value (w, t)))) (rest (size_of_sample l.value (w, t))))
    by_fit rest false is = (inr (fits_so limit n (size_of_sample l.value (w, t)) (bytes_some l.value (w, t)) is), rest (n + size_of_sample l.value (w, t)))
cuts_within limit n (item.Flush ∷ xs) h = absurd h
cuts_within limit n (item.End k ∷ xs) h = absurd h

pub cuts_keep : (limit : ℕ) (items more : List Item) → StaysWithinLimit limit items → AreOnlySamples more → StaysWithinLimit limit (items ++ with_cuts (Some limit) (open_bytes items) more)
cuts_keep limit items more h are = within_append limit 0 items (with_cuts (Some limit) (open_bytes items) more) h (cuts_within limit (open_bytes items) more are)

pub marks_keep : (limit : ℕ) (items : List Item) → StaysWithinLimit limit items → StaysWithinLimit limit (items ++ item.Flush ∷ [])
marks_keep limit items h = within_append limit 0 items (item.Flush ∷ []) h tt
