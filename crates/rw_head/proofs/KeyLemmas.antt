-- Keys are in byte order just as their label sets do.
use Rattle.std.proofs.Common.{◌≡◌, ℕ, suc, ◌<◌, ◌≤◌, List, [], ◌∷◌, ◌++◌, map, IsUtf8, inl, inr, ◌⊎◌, refl, sym, ap, ap₂, subst, ◌∙◌, append_assoc, arith, true}
use Rattle.std.proofs.lemmas.List.{map-append}
use Rattle.std.proofs.lemmas.Bool.{and_parts, cases_lt, lt-ltb, le-ltb}
use Rattle.std.proofs.Math.Utf8.{scalar, scalars, scalar_cases, encode, encodes}
use Rattle.std.specs.List.{AllByRecursion}
use Rattle.std.specs.Cmp.{nat_cmp_is, ranks}
use Rattle.std.specs.Cmp.Lexicographic.{slice_cmp}
use Rattle.std.specs.Ordering.{nat_cmp, ordering_then, MatchOrdering}
use Rattle.std.specs.declared.cmp.Ordering.{Ordering}
use Rattle.std.specs.declared.cmp.Ordering.TheVariants.{Less, Equal, Greater}
use Rattle.rw_types.specs.Labels.{Label, Labels}
use Rattle.rw_types.specs.LabelOrder.{labels_cmp}
use Rattle.rw_types.proofs.shared.AllLemmas.{AllByRecursion-append}
use Rattle.rw_head.specs.inner.Keys.{text_key, labels_key, raised_byte}

in_turn : (o p q : Ordering) → ordering_then (ordering_then o p) q ≡ ordering_then o (ordering_then p q)
in_turn Less p q = refl
in_turn Equal p q = refl
in_turn Greater p q = refl

abbrev order : List ℕ → List ℕ → Ordering
order = slice_cmp nat_cmp

raised : (b c : ℕ) → nat_cmp (suc b) (suc c) ≡ nat_cmp b c
raised b c = sym (nat_cmp_is (suc b) (suc c) (nat_cmp b c) (both (nat_cmp b c) (ranks b c)))
  where
    both : (o : Ordering) → MatchOrdering o (b < c) (b ≡ c) (c < b) → MatchOrdering o (suc b < suc c) (suc b ≡ suc c) (suc c < suc b)
    both Less h = omega arith
    both Equal h = ap suc h
    both Greater h = omega arith

less : (c : ℕ) (o : Ordering) → ordering_then (nat_cmp 0 (suc c)) o ≡ Less
less c o = ap (λ r. ordering_then r o) (sym (nat_cmp_is 0 (suc c) Less (omega arith)))

greater : (b : ℕ) (o : Ordering) → ordering_then (nat_cmp (suc b) 0) o ≡ Greater
greater b o = ap (λ r. ordering_then r o) (sym (nat_cmp_is (suc b) 0 Greater (omega arith)))

-- first the texts decide, and then what follows their keys
texts_first : (s t x y : List ℕ) → order (text_key s ++ x) (text_key t ++ y) ≡ ordering_then (order s t) (order x y)
texts_first [] [] x y = refl
texts_first [] (c ∷ t) x y = less c (order x (text_key t ++ y))
texts_first (b ∷ s) [] x y = greater b (order (text_key s ++ x) y)
texts_first (b ∷ s) (c ∷ t) x y = ap (λ o. ordering_then o (order (text_key s ++ x) (text_key t ++ y))) (raised b c) ∙ ap (ordering_then (nat_cmp b c)) (texts_first s t x y) ∙ sym (in_turn (nat_cmp b c) (order s t) (order x y))

none_first : (t y : List ℕ) → order [] (text_key t ++ y) ≡ Less
none_first [] y = refl
none_first (c ∷ t) y = refl

none_last : (s x : List ℕ) → order (text_key s ++ x) [] ≡ Greater
none_last [] x = refl
none_last (b ∷ s) x = refl

in_parts : (l : Label) (ls : Labels) → labels_key (l ∷ ls) ≡ text_key l.0 ++ (text_key l.1 ++ labels_key ls)
in_parts l ls = append_assoc (text_key l.0) (text_key l.1) (labels_key ls)

pub keys_in_order : (a b : Labels) → order (labels_key a) (labels_key b) ≡ labels_cmp a b
keys_in_order [] [] = refl
keys_in_order [] (m ∷ ms) = ap (order []) (in_parts m ms) ∙ none_first m.0 (text_key m.1 ++ labels_key ms)
keys_in_order (l ∷ ls) [] = ap (λ k. order k []) (in_parts l ls) ∙ none_last l.0 (text_key l.1 ++ labels_key ls)
keys_in_order (l ∷ ls) (m ∷ ms) =
    ap₂ order (in_parts l ls) (in_parts m ms)
    ∙ texts_first l.0 m.0 (text_key l.1 ++ labels_key ls) (text_key m.1 ++ labels_key ms)
    ∙ ap (ordering_then (order l.0 m.0)) (texts_first l.1 m.1 (labels_key ls) (labels_key ms) ∙ ap (ordering_then (order l.1 m.1)) (keys_in_order ls ms))
    ∙ sym (in_turn (order l.0 m.0) (order l.1 m.1) (labels_cmp ls ms))

-- ---- no byte of a text is 255
abbrev Low : List ℕ → Type 0
Low bs = AllByRecursion (λ b. b < 255) bs

one_low : (c : ℕ) → scalar c ≡ true → Low (encode c)
unfolding encode
one_low c ok = by_size (cases_lt c 128) (cases_lt c 2048) (cases_lt c 65536)
  where
    high : c < 1114112
    high = elim (scalar_cases c ok) [ inl h ↦ omega arith | inr h ↦ h.1 ]

    by_size : (c < 128) ⊎ (128 ≤ c) → (c < 2048) ⊎ (2048 ≤ c) → (c < 65536) ⊎ (65536 ≤ c) → Low (encode c)
    by_size (inl a) _ _ = rw (lt-ltb c 128 a) (omega arith, tt)
    by_size (inr a) (inl b) _ = rw (le-ltb c 128 a, lt-ltb c 2048 b) (omega arith, (omega arith, tt))
    by_size (inr a) (inr b) (inl d) = rw (le-ltb c 128 a, le-ltb c 2048 b, lt-ltb c 65536 d) (omega arith, (omega arith, (omega arith, tt)))
    by_size (inr a) (inr b) (inr d) = rw (le-ltb c 128 a, le-ltb c 2048 b, le-ltb c 65536 d) (let h = high in omega arith, (omega arith, (omega arith, (omega arith, tt))))

all_low : (cs : List ℕ) → scalars cs ≡ true → Low (encodes cs)
all_low [] ok = tt
all_low (c ∷ cs) ok = let both = and_parts _ _ ok in AllByRecursion-append (λ b. b < 255) (encode c) (encodes cs) (one_low c both.0) (all_low cs both.1)

one_raised : (b : ℕ) → b < 255 → raised_byte b ≡ suc b
one_raised b low = omega arith

all_raised : (bs : List ℕ) → Low bs → map raised_byte bs ≡ map (λ b. suc b) bs
all_raised [] h = refl
all_raised (b ∷ bs) h = ap₂ (λ c cs. c ∷ cs) (one_raised b h.0) (all_raised bs h.1)

-- the bytes of a text after those of a key, and the one that becomes its end
pub raised_after : (key text : List ℕ) → IsUtf8 text → map raised_byte ((key ++ text) ++ 255 ∷ []) ≡ map raised_byte key ++ text_key text
raised_after key text h =
    map-append raised_byte (key ++ text) (255 ∷ [])
    ∙ ap (λ bs. bs ++ 0 ∷ []) (map-append raised_byte key text ∙ ap (λ bs. map raised_byte key ++ bs) (all_raised text (subst Low h.1.1 (all_low h.0 h.1.0))))
    ∙ append_assoc (map raised_byte key) (map (λ b. suc b) text) (0 ∷ [])
