-- A change of the last segment leaves as many segments, and need not cut anything.
use Rattle.std.proofs.Common.{◌≡◌, ℕ, suc, ◌+◌, ◌≤◌, List, [], ◌∷◌, ◌++◌, length, take, refl, sym, ap, ◌∙◌, arith}
use Rattle.std.proofs.lemmas.List.{take_all}
use Rattle.rw_kept_log.specs.Journal.{Segments, on_last, IsTornEnd, IsCutEnd}

pub length_on_last : (f : List ℕ → List ℕ) (ss : Segments) → length (on_last f ss) ≡ length ss
length_on_last f [] = refl
length_on_last f (s ∷ []) = refl
length_on_last f (s ∷ t ∷ ss) = ap (λ (n : ℕ). suc n) (length_on_last f (t ∷ ss))

pub torn_length : (tears : List ℕ → List ℕ → Type 0) (bytes : List ℕ) (old c : Segments) → IsTornEnd tears bytes old c → length c ≡ length old
torn_length tears bytes old c torn = ap length torn.folder ∙ length_on_last (λ s. s ++ torn.more) old

pub cut_length : (n : ℕ) (old c : Segments) → IsCutEnd n old c → length c ≡ length old
cut_length n old c cut = ap length cut.folder ∙ length_on_last (take cut.at) old

abbrev last_length : Segments → ℕ
last_length [] = 0
last_length (s ∷ []) = length s
last_length (s ∷ t ∷ ss) = last_length (t ∷ ss)

take_enough : (n : ℕ) (ss : Segments) → last_length ss ≤ n → on_last (take n) ss ≡ ss
take_enough n [] le = refl
take_enough n (s ∷ []) le = ap (λ (x : List ℕ). x ∷ []) (take_all n s le)
take_enough n (s ∷ t ∷ ss) le = ap (λ (x : Segments). s ∷ x) (take_enough n (t ∷ ss) le)

-- a crash before the cut leaves what was there
pub not_cut : (n : ℕ) (old c : Segments) → c ≡ old → IsCutEnd n old c
not_cut n old c same = record {
  at = n + last_length old;
  no_shorter = omega arith;
  folder = same ∙ sym (take_enough (n + last_length old) old (omega arith));
}
