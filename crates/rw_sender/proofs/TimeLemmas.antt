-- The times of samples that were put.
use Rattle.std.proofs.Common.{◌≡◌, ◌≢◌, ◌⊎◌, inl, inr, ℕ, ℤ, zero, suc, ◌+◌, ◌<◌, ◌≤◌, List, [], ◌∷◌, ◌++◌, length, Some, None, refl, sym, ap, ◌∙◌, subst, arith}
use Rattle.std.specs.Prelude.{◌+ℤ◌, ◌≤ℤ◌, pos, set, slice_get}
use Rattle.std.proofs.lemmas.Int.{ints}
use Rattle.std.proofs.lemmas.Option.{same_Some}
use Rattle.rw_types.specs.declared.place.Place.{Place}
use Rattle.rw_plain_queue.specs.Items.{Placed, samples_in, places_in}
use Rattle.rw_plain_queue.specs.declared.item.Item.{Item}
use Rattle.rw_plain_queue.specs.declared.item.Item.TheVariants as item
use Rattle.rw_plain_queue.proofs.shared.Lists.{get_snoc}
use Rattle.rw_series_cache.specs.declared.sample.RoutedSample.{RoutedSample}
use Rattle.rw_fleet.specs.ShardHistories.{ShardHistory, AreFresh, AreSame, IsPut, put_as}
use Rattle.rw_sender.specs.Skews.{IsPutIn, KeepsSkew}
use Rattle.rw_sender.specs.inner.Shipping.{IsSince, IsSpanned}
use Rattle.rw_sender.specs.declared.span.Span.{Span}
use Rattle.rw_sender.proofs.shared.PlacementLemmas.{get_set}

-- ---- the samples that were put

place_at : (xs : List Item) (m : ℕ) (a : Placed) → slice_get (samples_in xs) m ≡ Some a → slice_get (places_in xs) m ≡ Some a.place
place_at [] m a at = absurd (let none : None ≡ Some a = at in cc)
place_at (item.Sample p t w l ∷ xs) zero a at = ap (λ (x : Placed). Some x.place) (same_Some (record { place = p; t = t; word = w; labels = l.value }) a at)
place_at (item.Sample p t w l ∷ xs) (suc m) a at = place_at xs m a at
place_at (item.Flush ∷ xs) m a at = place_at xs m a at
place_at (item.End kind ∷ xs) m a at = place_at xs m a at

same_at : (ps qs : List ShardHistory) (k : ℕ) (q : ShardHistory) → AreSame ps qs → slice_get qs k ≡ Some q → (p : ShardHistory) × (slice_get ps k ≡ Some p) × (samples_in q.put ≡ samples_in p.put)
same_at [] [] k q h at = absurd (let none : None ≡ Some q = at in cc)
same_at [] (y ∷ ys) k q h at = absurd h
same_at (x ∷ xs) [] k q h at = absurd h
same_at (x ∷ xs) (y ∷ ys) zero q h at = (x, refl, ap (λ (f : ShardHistory). samples_in f.put) (sym (same_Some y q at)) ∙ h.1)
same_at (x ∷ xs) (y ∷ ys) (suc k) q h at = same_at xs ys k q h.2 at

-- marks leave the samples
same_in : (ps qs : List ShardHistory) (a : Placed) → AreSame ps qs → IsPutIn qs a → IsPutIn ps a
same_in ps qs a h (k, m, q, at, there) =
    let p = same_at ps qs k q h at in (k, m, p.0, p.1, ap (λ xs. slice_get xs m) (sym p.2) ∙ there)

pub since_same : (earliest : ℤ) (ps qs : List ShardHistory) → AreSame ps qs → IsSince earliest ps → IsSince earliest qs
since_same earliest ps qs same h a is = h a (same_in ps qs a same is)

skew_same : (most : ℕ) (ps qs : List ShardHistory) → AreSame ps qs → KeepsSkew most ps → KeepsSkew most qs
skew_same most ps qs same h a b one other before = h a b (same_in ps qs a same one) (same_in ps qs b same other) before

-- nothing was put yet
fresh_in : (e : ℕ) (ls : List ShardHistory) (a : Placed) → AreFresh e ls → IsPutIn ls a → ⊥
fresh_in e ls a h (k, m, l, at, there) =
    let none : slice_get (samples_in []) m ≡ Some a = ap (λ xs. slice_get (samples_in xs) m) (sym (h k l at).2) ∙ there in
    (let no : None ≡ Some a = none in cc)

pub since_fresh : (earliest : ℤ) (e : ℕ) (ls : List ShardHistory) → AreFresh e ls → IsSince earliest ls
since_fresh earliest e ls h a is = absurd (fresh_in e ls a h is)

-- a sample is one of those that were put before, or the one that was put
put_in : (k : ℕ) (s : RoutedSample) (old new : List ShardHistory) (a : Placed) → IsPut k s old new → IsPutIn new a → IsPutIn old a ⊎ ((s.t ≡ a.t) × (s.pos ≡ a.place.pos))
put_in k s old new a put (j, m, l, at, there) =
    elim (get_set old k j put.now l (ap (λ ls. slice_get ls j) (sym put.is) ∙ at)) [
      | inl here ↦ elim (get_snoc (samples_in put.was.put) (put_as put.was s) a m (ap (λ xs. slice_get xs m) (sym put.put) ∙ ap (λ (x : ShardHistory). slice_get (samples_in x.put) m) here.1 ∙ there)) [
        | inl was ↦ inl (k, m, put.was, put.at, was)
        | inr new ↦ inr (ap (λ (x : Placed). x.t) new.1, ap (λ (x : Placed). x.place.pos) new.1)
      ]
      | inr else ↦ inl (j, m, l, else.1, there)
    ]

-- all that was put before is below
abbrev pub AreBelow : ℕ → List ShardHistory → Type 0
AreBelow n lanes = (j : ℕ) (lane : ShardHistory) (m : ℕ) (o : Place) → slice_get lanes j ≡ Some lane → slice_get (places_in lane.put) m ≡ Some o → o.pos < n

below_in : (n : ℕ) (ls : List ShardHistory) (a : Placed) → AreBelow n ls → IsPutIn ls a → a.place.pos < n
below_in n ls a h (k, m, l, at, there) = h k l m a.place at (place_at l.put m a there)

since_put : (earliest next : ℤ) (k : ℕ) (s : RoutedSample) (old new : List ShardHistory) → IsPut k s old new → next ≤ℤ earliest → next ≤ℤ s.t → IsSince earliest old → IsSince next new
since_put earliest next k s old new put before own h a is =
    elim (put_in k s old new a put is) [
      | inl was ↦ (let later = h a was in omega (arith, ints))
      | inr it ↦ subst (λ z. next ≤ℤ z) it.0 own
    ]

skew_put : (earliest : ℤ) (most k : ℕ) (s : RoutedSample) (old new : List ShardHistory) → IsPut k s old new → s.t ≤ℤ (earliest +ℤ pos most) → IsSince earliest old → AreBelow s.pos old → KeepsSkew most old → KeepsSkew most new
skew_put earliest most k s old new put takes since below h a b one other before =
    elim (put_in k s old new b put other) [
      | inl was ↦ elim (put_in k s old new a put one) [
        | inl both ↦ h a b both was before
        | inr last ↦ (let low = below_in s.pos old b below was in let at = last.1 in let no : ⊥ = omega (arith, before) in absurd no)
      ]
      | inr last ↦ elim (put_in k s old new a put one) [
        | inl was ↦ (let low = since a was in let at = last.0 in omega (arith, ints))
        | inr it ↦ (let x = it.1 in let y = last.1 in let no : ⊥ = omega (arith, before) in absurd no)
      ]
    ]

-- a sample was put after a mark, if that was asked for
pub spanned_put : (span next : Span) (k : ℕ) (s : RoutedSample) (old mid new : List ShardHistory) → AreSame old mid → IsPut k s mid new → next.most ≡ span.most → next.earliest ≤ℤ span.earliest → next.earliest ≤ℤ s.t
    → s.t ≤ℤ (span.earliest +ℤ pos span.most) → IsSince span.earliest old → AreBelow s.pos mid → IsSpanned span next old new
spanned_put span next k s old mid new same put most before own takes since below = record {
  most = most;
  since = since_put span.earliest next.earliest k s mid new put before own (since_same span.earliest old mid same since);
  skew = λ h. skew_put span.earliest span.most k s mid new put takes (since_same span.earliest old mid same since) below (skew_same span.most old mid same h);
}

pub spanned_same : (span : Span) (old new : List ShardHistory) → AreSame old new → IsSince span.earliest old → IsSpanned span span old new
spanned_same span old new same since = record { most = refl; since = since_same span.earliest old new same since; skew = skew_same span.most old new same }

pub spanned_on : (a b c : Span) (x y z : List ShardHistory) → IsSpanned a b x y → IsSpanned b c y z → IsSpanned a c x z
spanned_on a b c x y z h g = record {
  most = g.most ∙ h.most;
  since = g.since;
  skew = λ kept. subst (λ d. KeepsSkew d z) h.most (g.skew (subst (λ d. KeepsSkew d y) (sym h.most) (h.skew kept)));
}
