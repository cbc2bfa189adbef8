-- Queues whose stretches between marks are within a limit, and the batches of them.
use Rattle.std.proofs.Common.{◌≡◌, ◌⊎◌, inl, inr, ℕ, zero, suc, ◌+◌, ◌≤◌, List, [], ◌∷◌, ◌++◌, length, map, Bool, true, false, cond, Some, refl, sym, ap, ◌∙◌, subst, length-append, arith}
use Rattle.std.specs.Prelude.{slice_get, nat_le, fold}
use Rattle.std.specs.List.{sum_by}
use Rattle.std.proofs.lemmas.List.Sums.{sum_by-cons}
use Rattle.rw_plain_queue.specs.Items.{Placed}
use Rattle.rw_plain_queue.specs.declared.item.Item.{Item}
use Rattle.rw_plain_queue.specs.declared.item.Item.TheVariants as item
use Rattle.rw_write_request.specs.Canon.{canon}
use Rattle.rw_batch.specs.Grouping.{LabelledSample, message}
use Rattle.rw_sender.specs.Sizes.{size_of_sample, bytes_alone}
use Rattle.rw_sender.specs.Marking.{AreOnlySamples, WithinFrom, StaysWithinLimit, open_bytes, with_cuts}
use Rattle.rw_sender.proofs.SizeLemmas.{bytes_some}
use Rattle.rw_shard_core.specs.Shard.{placed, labelled, body_of}
use Rattle.rw_worker.specs.Cut.{Cutting, cutting, one_of, close_batch, close_if_full, cut_by, cut}
use Rattle.rw_fleet.specs.ShardHistories.{ShardHistory, marked}
use Rattle.rw_sender.specs.Cutting.{IsShort, AreShort, IsCutShort, AreCutBy, AreWithin}

pub within_fresh : (limit : ℕ) (ls : List ShardHistory) → ((k : ℕ) (l : ShardHistory) → slice_get ls k ≡ Some l → l.put ≡ []) → AreWithin limit ls
within_fresh limit [] fresh = tt
within_fresh limit (l ∷ ls) fresh = (subst (StaysWithinLimit limit) (sym (fresh zero l refl)) tt, within_fresh limit ls (λ k m at. fresh (suc k) m at))

module _ (keeps : (limit : ℕ) (items more : List Item) → StaysWithinLimit limit items → AreOnlySamples more → StaysWithinLimit limit (items ++ with_cuts (Some limit) (open_bytes items) more)) where
  pub within_cut : (limit : ℕ) (ps qs : List ShardHistory) → AreWithin limit ps → AreCutBy (Some limit) ps qs → AreWithin limit qs
  within_cut limit [] [] h c = tt
  within_cut limit [] (q ∷ qs) h c = absurd c
  within_cut limit (p ∷ ps) [] h c = absurd c
  within_cut limit (p ∷ ps) (q ∷ qs) h c = (subst (StaysWithinLimit limit) (sym c.0.2) (keeps limit p.put c.0.0 h.0 c.0.1), within_cut limit ps qs h.1 c.1)

module _ (keeps : (limit : ℕ) (items : List Item) → StaysWithinLimit limit items → StaysWithinLimit limit (items ++ item.Flush ∷ [])) where
  pub within_marked : (limit : ℕ) (ps : List ShardHistory) → AreWithin limit ps → AreWithin limit (map marked ps)
  within_marked limit [] h = tt
  within_marked limit (p ∷ ps) h = (keeps limit p.put h.0, within_marked limit ps h.1)

-- what samples count together
abbrev counted : List Placed → ℕ
counted [] = 0
counted (x ∷ xs) = size_of_sample x.labels (x.word, x.t) + counted xs

counted_push : (xs : List Placed) (x : Placed) → counted (xs ++ x ∷ []) ≡ counted xs + size_of_sample x.labels (x.word, x.t)
counted_push [] x = omega arith
counted_push (y ∷ ys) x = let rest = counted_push ys x in omega arith

counted_is : (xs : List Placed) → sum_by bytes_alone (map labelled xs) ≡ counted xs
counted_is [] = refl
counted_is (x ∷ xs) = sum_by-cons bytes_alone (labelled x) (map labelled xs) ∙ ap (λ n. size_of_sample x.labels (x.word, x.t) + n) (counted_is xs)

short_push : (limit : ℕ) (bs : List (List Placed)) (xs : List Placed) → AreShort limit bs → IsShort limit xs → AreShort limit (bs ++ one_of xs)
short_push limit [] [] h s = tt
short_push limit [] (x ∷ xs) h s = (s, tt)
short_push limit (b ∷ bs) xs h s = (h.0, short_push limit bs xs h.1 s)

-- the samples after the batches count no more than those since the last mark
record IsWithinCut (limit n : ℕ) (c : Cutting) : Type 0 where
  batches : AreShort limit c.batches
  rest : (length c.rest ≤ 1) ⊎ (counted c.rest ≤ limit)
  few : counted c.rest ≤ n
  none : n ≡ 0 → length c.rest ≡ 0

module _ (bound : (xs : List LabelledSample) → length (canon (message xs)) ≤ sum_by bytes_alone xs) where
  short_so : (limit : ℕ) (xs : List Placed) → (length xs ≤ 1) ⊎ (counted xs ≤ limit) → IsShort limit xs
  unfolding body_of
  short_so limit xs (inl one) = inl one
  short_so limit xs (inr few) = inr (let len = bound (map labelled xs) in let is = counted_is xs in omega arith)

  closed : (limit m n : ℕ) (c : Cutting) → IsWithinCut limit n c → IsWithinCut limit m (close_batch c)
  closed limit m n c h = record {
    batches = short_push limit c.batches c.rest h.batches (short_so limit c.rest h.rest);
    rest = inl (omega arith);
    few = omega arith;
    none = λ z. refl;
  }

  full : (limit n : ℕ) (b : Bool) (c : Cutting) → IsWithinCut limit n c → IsWithinCut limit n (cond b (close_batch c) c)
  full limit n true c h = closed limit n n c h
  full limit n false c h = h

  with_one : (limit n : ℕ) (c : Cutting) (x : Placed) → IsWithinCut limit n c → (n ≡ 0) ⊎ (n + size_of_sample x.labels (x.word, x.t) ≤ limit) → IsWithinCut limit (n + size_of_sample x.labels (x.word, x.t)) (cutting c.batches (c.rest ++ x ∷ []))
  with_one limit n c x h fits =
      let push = counted_push c.rest x in
      let few = h.few in
      let len = length-append c.rest (x ∷ []) in record {
        batches = h.batches;
        rest = elim fits [
          | inl none ↦ inl (let zero = h.none none in omega arith)
          | inr le ↦ inr (omega arith)
        ];
        few = omega arith;
        none = λ z. absurd (let some = bytes_some x.labels (x.word, x.t) in omega arith);
      }

  folded : (limit batch n : ℕ) (c : Cutting) (items : List Item) → IsWithinCut limit n c → WithinFrom limit n items → IsCutShort limit (fold (cut_by batch) c items)
  folded limit batch n c [] h w = (h.batches, short_so limit c.rest h.rest)
  folded limit batch n c (item.Sample p t v l ∷ xs) h w =
      let x = placed p t v l.value in
      let more = cutting c.batches (c.rest ++ x ∷ []) in
      folded limit batch (n + size_of_sample l.value (v, t)) (close_if_full batch more) xs (full limit (n + size_of_sample l.value (v, t)) (nat_le batch (length more.rest)) more (with_one limit n c x h w.0)) w.1
  folded limit batch n c (item.Flush ∷ xs) h w = folded limit batch 0 (close_batch c) xs (closed limit 0 n c h) w
  folded limit batch n c (item.End k ∷ xs) h w = folded limit batch 0 (close_batch c) xs (closed limit 0 n c h) w

  pub cut_short : (limit batch : ℕ) (items : List Item) → StaysWithinLimit limit items → IsCutShort limit (cut batch items)
  cut_short limit batch items w = folded limit batch 0 (cutting [] []) items (record { batches = tt; rest = inl (omega arith); few = omega arith; none = λ z. refl }) w
