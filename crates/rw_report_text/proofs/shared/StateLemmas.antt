-- Texts that grow line by line.
use Rattle.std.proofs.Common.{◌≡◌, ℕ, List, [], ◌∷◌, ◌++◌, map, flat_map, refl, sym, ap, ap₂, ◌∙◌, append_assoc}
use Rattle.std.proofs.lemmas.List.{append-nil}
use Rattle.rw_types.specs.Beginnings.{Begins}
use Rattle.rw_types.specs.Labels.{Labels}
use Rattle.rw_types.proofs.shared.BeginningLemmas.{begins_itself, begins_twice}
use Rattle.rw_head.specs.Order.{Point}
use Rattle.rw_head.specs.Store.{Store, list_of, held_series, AreListsOf}
use Rattle.rw_report_text.specs.StateText.{received_text, store_text}

-- what is written of some things, while the lines of others are still to come
pub record Written {A : Type 0} (f : A → List ℕ) (old whole out : List ℕ) (left : List A) : Type 0 where
  pub text : out ++ flat_map f left ≡ old ++ whole
  pub grown : Begins old out

pub written_begins : {A : Type 0} (f : A → List ℕ) (old : List ℕ) (all : List A) → Written f old (flat_map f all) old all
written_begins f old all = record { text = refl; grown = begins_itself old }

pub written_more : {A : Type 0} (f : A → List ℕ) (old whole out longer : List ℕ) (x : A) (all left : List A) → Written f old whole out all → all ≡ x ∷ left → longer ≡ out ++ f x
    → Written f old whole longer left
written_more f old whole out longer x all left w e g = record {
  text = ap (λ (t : List ℕ). t ++ flat_map f left) g ∙ append_assoc out (f x) (flat_map f left) ∙ ap (λ (xs : List _). out ++ flat_map f xs) (sym e) ∙ w.text;
  grown = begins_twice old out longer w.grown (f x, g);
}

pub written_all : {A : Type 0} (f : A → List ℕ) (old whole out : List ℕ) (left : List A) → Written f old whole out left → left ≡ [] → out ≡ old ++ whole
written_all f old whole out left w e = sym (append-nil out) ∙ ap (λ (xs : List _). out ++ flat_map f xs) (sym e) ∙ w.text

-- what is written of series is written of their label sets, with the samples that each has
pub store_lines : (store : Store) (series : List (Labels × List Point)) → AreListsOf store series
    → flat_map (λ s. received_text s.0 s.1) series ≡ flat_map (λ l. received_text l (list_of store l)) (map (λ s. s.0) series)
store_lines store [] h = refl
store_lines store (s ∷ rest) h = ap₂ (λ (xs : List Point) (text : List ℕ). received_text s.0 xs ++ text) (sym h.0) (store_lines store rest h.1)

pub store_begins : (store : Store) (series : List (Labels × List Point)) (old : List ℕ) → series ≡ held_series store → AreListsOf store series
    → Written (λ s. received_text s.0 s.1) old (store_text store) old series
store_begins store series old all lists = record {
  text = ap (λ (text : List ℕ). old ++ text) (store_lines store series lists ∙ ap (λ (ss : List (Labels × List Point)). flat_map (λ l. received_text l (list_of store l)) (map (λ s. s.0) ss)) all);
  grown = begins_itself old;
}
