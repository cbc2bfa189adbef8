-- The parts of a record, as they are written one after the other: their bytes, and that each fits
-- into 64 bits.
use Rattle.std.proofs.Common.{◌≡◌, ℕ, ◌+◌, ◌<◌, ◌≤◌, ℤ, List, [], ◌∷◌, ◌++◌, length, map, flat_map, take, get_or, Vec, sym, ap, ◌∙◌, subst, arith, append_assoc, append-nil}
use Rattle.std.proofs.lemmas.Grind.{flat_map-append}
use Rattle.std.proofs.lemmas.List.{map-append, take_all, take_more}
use Rattle.std.specs.declared.alloc.Global.{Global}
use Rattle.rw_types.specs.Labels.{Labels, bytes_label}
use Rattle.rw_wal_format.specs.Laws.{AreTexts, IsSample, AreSamples}

one_more : {A : Type 0} (xs : List A) (i : ℕ) (x : A) → i < length xs → x ≡ get_or xs i x → take (i + 1) xs ≡ take i xs ++ x ∷ []
one_more xs i x lt is = take_more xs i x lt ∙ ap (λ y. take i xs ++ y ∷ []) (sym is)

one_more_label : (ls : List (Vec ℕ Global × Vec ℕ Global)) (i : ℕ) (l : Vec ℕ Global × Vec ℕ Global) → i < length ls → l ≡ get_or ls i l
    → map bytes_label (take (i + 1) ls) ≡ map bytes_label (take i ls) ++ bytes_label l ∷ []
one_more_label ls i l lt is = ap (map bytes_label) (one_more ls i l lt is) ∙ map-append bytes_label (take i ls) (l ∷ [])

-- ---- bytes

bytes_more : {A : Type 0} (f : A → List ℕ) (xs ys : List A) (x : A) (old before now : List ℕ) → ys ≡ xs ++ x ∷ []
    → before ≡ old ++ flat_map f xs → now ≡ before ++ f x → now ≡ old ++ flat_map f ys
bytes_more f xs ys x old before now all h g =
    g ∙ ap (λ zs. zs ++ f x) h ∙ append_assoc old (flat_map f xs) (f x)
    ∙ ap (λ zs. old ++ zs) (ap (λ zs. flat_map f xs ++ zs) (sym (append-nil (f x))) ∙ sym (flat_map-append f xs (x ∷ [])) ∙ ap (flat_map f) (sym all))

pub sample_bytes_next : {A : Type 0} (f : A → List ℕ) (xs : List A) (i : ℕ) (x : A) (old before now : List ℕ) → i < length xs → x ≡ get_or xs i x
    → before ≡ old ++ flat_map f (take i xs) → now ≡ before ++ f x → now ≡ old ++ flat_map f (take (i + 1) xs)
sample_bytes_next f xs i x old before now lt is = bytes_more f (take i xs) (take (i + 1) xs) x old before now (one_more xs i x lt is)

pub label_bytes_next : (f : List ℕ × List ℕ → List ℕ) (ls : List (Vec ℕ Global × Vec ℕ Global)) (i : ℕ) (l : Vec ℕ Global × Vec ℕ Global) (old before now : List ℕ)
    → i < length ls → l ≡ get_or ls i l → before ≡ old ++ flat_map f (map bytes_label (take i ls)) → now ≡ before ++ f (bytes_label l)
    → now ≡ old ++ flat_map f (map bytes_label (take (i + 1) ls))
label_bytes_next f ls i l old before now lt is =
    bytes_more f (map bytes_label (take i ls)) (map bytes_label (take (i + 1) ls)) (bytes_label l) old before now (one_more_label ls i l lt is)

-- ---- what fits

pub none_fit : (ss : List (ℕ × ℤ × ℕ)) → length ss ≤ 0 → AreSamples ss
none_fit [] le = tt
none_fit (s ∷ ss) le = absurd (omega arith)

pub samples_all : (ss : List (ℕ × ℤ × ℕ)) (i : ℕ) → length ss ≤ i → AreSamples (take i ss) → AreSamples ss
samples_all ss i le h = subst AreSamples (take_all i ss le) h

pub texts_all : (ls : List (Vec ℕ Global × Vec ℕ Global)) (i : ℕ) (labels : Labels) → length ls ≤ i → map bytes_label ls ≡ labels → AreTexts (map bytes_label (take i ls)) → AreTexts labels
texts_all ls i labels le e h = subst AreTexts e (subst (λ ks. AreTexts (map bytes_label ks)) (take_all i ls le) h)

pub texts_more : (ls : Labels) (m : List ℕ × List ℕ) → AreTexts ls → AreTexts (m ∷ []) → AreTexts (ls ++ m ∷ [])
texts_more [] m h g = g
texts_more (l ∷ ls) m h g = (h.0, h.1, texts_more ls m h.2 g)

pub samples_more : (ss : List (ℕ × ℤ × ℕ)) (s : ℕ × ℤ × ℕ) → AreSamples ss → IsSample s → AreSamples (ss ++ s ∷ [])
samples_more [] s h g = (g, tt)
samples_more (x ∷ ss) s h g = (h.0, samples_more ss s h.1 g)

pub samples_next : (ss : List (ℕ × ℤ × ℕ)) (i : ℕ) (s : ℕ × ℤ × ℕ) → i < length ss → s ≡ get_or ss i s → AreSamples (take i ss) → IsSample s → AreSamples (take (i + 1) ss)
samples_next ss i s lt is h g = subst AreSamples (sym (one_more ss i s lt is)) (samples_more (take i ss) s h g)

pub texts_next : (ls : List (Vec ℕ Global × Vec ℕ Global)) (i : ℕ) (l : Vec ℕ Global × Vec ℕ Global) → i < length ls → l ≡ get_or ls i l
    → AreTexts (map bytes_label (take i ls)) → AreTexts (bytes_label l ∷ []) → AreTexts (map bytes_label (take (i + 1) ls))
texts_next ls i l lt is h g = subst AreTexts (sym (one_more_label ls i l lt is)) (texts_more (map bytes_label (take i ls)) (bytes_label l) h g)
