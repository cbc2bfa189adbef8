-- What is appended to the last of some segments.
use Rattle.std.proofs.Common.{◌≡◌, ℕ, ◌+◌, ◌-◌, ◌≤◌, List, [], ◌∷◌, ◌++◌, length, take, drop, inl, inr, refl, sym, ap, ◌∙◌, subst, arith, append_assoc, append-nil, take-append-drop}
use Rattle.std.proofs.lemmas.List.{take-take, drop-take}
use Rattle.rw_kept_log.specs.Journal.{Segments, on_last, with_more, IsTornEnd}
use Rattle.rw_kept_log.specs.Torn.{left_at, IsTornLog}

pub with_none : (ss : Segments) → with_more ss [] ≡ ss
with_none [] = refl
with_none (s ∷ []) = ap (λ (x : List ℕ). x ∷ []) (append-nil s)
with_none (s ∷ t ∷ ss) = ap (λ (x : Segments). s ∷ x) (with_none (t ∷ ss))

with_cons : (s : List ℕ) (ss : Segments) (f : List ℕ → List ℕ) (t : List ℕ) → on_last f (s ∷ (ss ++ t ∷ [])) ≡ s ∷ on_last f (ss ++ t ∷ [])
with_cons s [] f t = refl
with_cons s (u ∷ ss) f t = refl

-- the last of segments is the last
pub on_last-push : (f : List ℕ → List ℕ) (ss : Segments) (s : List ℕ) → on_last f (ss ++ s ∷ []) ≡ ss ++ f s ∷ []
on_last-push f [] s = refl
on_last-push f (t ∷ ss) s = with_cons t ss f s ∙ ap (λ (x : Segments). t ∷ x) (on_last-push f ss s)

pub with_twice : (ss : Segments) (a b : List ℕ) → with_more (with_more ss a) b ≡ with_more ss (a ++ b)
with_twice [] a b = refl
with_twice (s ∷ []) a b = ap (λ (x : List ℕ). x ∷ []) (append_assoc s a b)
with_twice (s ∷ t ∷ []) a b = ap (λ (x : Segments). s ∷ x) (with_twice (t ∷ []) a b)
with_twice (s ∷ t ∷ u ∷ ss) a b = ap (λ (x : Segments). s ∷ x) (with_twice (t ∷ u ∷ ss) a b)

-- nothing was written yet
pub not_torn : (tears : List ℕ → List ℕ → Type 0) (page offset : ℕ) (old : Segments) (written : List ℕ) → IsTornLog tears page offset old written old
not_torn tears page offset old written = record {
  more = [];
  folder = sym (with_none old);
  torn = record { synced = 0; known = omega arith; part = []; later = written; parts = refl; within = omega arith; torn = []; tear = inl refl; no_longer = omega arith; segment = refl };
}

pub take-add : (n m : ℕ) (xs : List ℕ) → take (n + m) xs ≡ take n xs ++ take m (drop n xs)
take-add n m xs = sym (take-append-drop n (take (n + m) xs)) ∙ ap (λ (ys : List ℕ). ys ++ drop n (take (n + m) xs)) (take-take n (n + m) xs (omega arith)) ∙ ap (λ (ys : List ℕ). take n xs ++ ys) (drop-take n m xs)

-- one part more is written
pub part_written : (old now new : Segments) (done len : ℕ) (written part rest : List ℕ) → now ≡ with_more old (take done written) → new ≡ with_more now part
    → part ≡ take len rest → rest ≡ drop done written → new ≡ with_more old (take (done + len) written)
part_written old now new done len written part rest so_far more is left =
    more ∙ ap (λ (s : Segments). with_more s part) so_far ∙ with_twice old (take done written) part
    ∙ ap (λ (p : List ℕ). with_more old (take done written ++ p)) (is ∙ ap (take len) left)
    ∙ ap (with_more old) (sym (take-add done len written))

-- a part that goes to the page's end at most was being written after what was
pub torn_part : (tears : List ℕ → List ℕ → Type 0) (page offset at : ℕ) (old now : Segments) (written rest part later : List ℕ) (x : Segments) → offset ≤ at → at - offset ≤ length written
    → length part ≤ left_at page at → rest ≡ drop (at - offset) written → rest ≡ part ++ later
    → now ≡ with_more old (take (at - offset) written) → IsTornEnd tears part now x → IsTornLog tears page offset old written x
torn_part tears page offset at old now written rest part later x le within fits is split so_far end =
    let e : at ≡ offset + (at - offset) = omega arith in
    let fits' : length part ≤ left_at page (offset + (at - offset)) = subst (λ (o : ℕ). length part ≤ left_at page o) e fits in
    record {
      more = take (at - offset) written ++ end.more;
      folder = end.folder ∙ ap (λ (s : Segments). with_more s end.more) so_far ∙ with_twice old (take (at - offset) written) end.more;
      torn = record {
        synced = at - offset;
        known = within;
        part = part;
        later = later;
        parts = sym is ∙ split;
        within = omega (arith, fits');
        torn = end.more;
        tear = inr end.torn;
        no_longer = end.no_longer;
        segment = refl;
      };
    }
