-- Label sets at their places: those that a message brought come last, and the others stay.
use Rattle.std.proofs.Common.{◌≡◌, ◌≢◌, ℕ, ℤ, w64, to_z, of_z, ◌-◌, ◌<◌, List, [], ◌∷◌, ◌++◌, length, take, drop, get_or, Option, None, Some, Ok, Err, Result, sym, ◌∙◌, ap, subst, arith}
use Rattle.std.proofs.lemmas.List.{length_push, length-take-le, get_or-take, take_all, take-append-le, take-append-drop}
use Rattle.std.proofs.lemmas.Int.{to_z-of_z}
use Rattle.std.specs.BTreeMap.{get}
use Rattle.std.specs.Prelude.{FitsSigned, IfSome}
use Rattle.rw_types.specs.Beginnings.{Begins}
use Rattle.rw_types.specs.Labels.{Labels}
use Rattle.rw_types.specs.LabelOrder.{labels_cmp}
use Rattle.rw_write_request.specs.Message.{TimeSeries}
use Rattle.rw_head.specs.declared.verdict.Verdict.{Verdict}
use Rattle.rw_head.specs.declared.verdict.Verdict.TheVariants.{NoMemory, Stored}
use Rattle.rw_head.specs.Growth.{sample_count}
use Rattle.rw_head.specs.Placed.{IsPlaced}
use Rattle.rw_head.specs.Store.{Store, total}
use Rattle.rw_head.specs.Verdicts.{LabelLimits, taken, judged, apply}
use Rattle.rw_head.specs.inner.Growth.{IsReady, HoldsNoneRefused}
use Rattle.rw_head.specs.inner.Lists.{Stores, StoreGives, settled_names}
use Rattle.rw_head.specs.inner.Names.{AreNamed}
use Rattle.rw_head.specs.inner.Placed.{SettlesTo}
use Rattle.rw_head.proofs.PlaceLemmas.{Index}
use Rattle.rw_head.proofs.shared.GrowthLemmas.{Grown, kept_grown, ready_again, ready_still, taken_within}

-- a message brought one more
pub settled-push : (names fresh : List Labels) (l m : Labels) → settled_names (names ++ l ∷ []) (fresh ++ m ∷ []) ≡ settled_names names fresh
settled-push names fresh l m =
    let n = length names - length fresh in
    let same : length (names ++ l ∷ []) - length (fresh ++ m ∷ []) ≡ n = omega (arith, length_push names l, length_push fresh m) in
    ap (λ k. take k (names ++ l ∷ [])) same ∙ take-append-le n names (l ∷ []) (omega arith)

-- all of them are kept
pub settled_all : (names fresh : List Labels) → fresh ≡ [] → settled_names names fresh ≡ names
settled_all names fresh none =
    take_all (length names - length fresh) names (omega (arith, ap length none))

pub settled_begins : (names fresh named : List Labels) → named ≡ [] → Begins (settled_names names fresh) (settled_names names named)
settled_begins names fresh named none = (
  drop (length names - length fresh) names,
  settled_all names named none ∙ sym (take-append-drop (length names - length fresh) names),
)

-- the others are kept
pub settled_front : (names fresh left named : List Labels) (n : ℕ) → n ≡ length names - length fresh → left ≡ take n names → named ≡ [] → settled_names left named ≡ settled_names names fresh
settled_front names fresh left named n e front none = settled_all left named none ∙ front ∙ ap (λ k. take k names) e

-- the label set at a place
pub placed_at : (index : Index) (names fresh placed : List Labels) (n : ℕ) → AreNamed index names → settled_names names fresh ≡ placed → n < length placed
    → (n < length names) × (get labels_cmp index (get_or placed n []) ≡ Some n)
placed_at index names fresh placed n h is lt =
    let k = length names - length fresh in
    let len : length placed ≡ k = ap length (sym is) ∙ length-take-le k names (omega arith) in
    let within : n < length names = omega (arith, lt, len) in
    let here : get_or placed n [] ≡ get_or names n [] = ap (λ (ns : List Labels). get_or ns n []) (sym is) ∙ get_or-take k names n [] (omega (arith, lt, len)) in
    (within, ap (get labels_cmp index) here ∙ h.stands n within)

-- and the place of a label set, if no message is judged
place_of_all : (index : Index) (names fresh : List Labels) (l : Labels) (n : ℕ) → AreNamed index names → length fresh ≡ 0 → get labels_cmp index l ≡ Some n → IsPlaced n l (settled_names names fresh)
place_of_all index names fresh l n h none at =
    subst (IsPlaced n l) (sym (take_all (length names - length fresh) names (omega (arith, none)))) (h.named l n at)

pub if_placed : (index : Index) (names fresh : List Labels) (l : Labels) (o : Option ℕ) → AreNamed index names → length fresh ≡ 0 → IfSome o (λ n. get labels_cmp index l ≡ Some n) → IfSome o (λ n. IsPlaced n l (settled_names names fresh))
if_placed index names fresh l None h none at = at
if_placed index names fresh l (Some n) h none at = place_of_all index names fresh l n h none at

-- ---- one series is staged, and then kept or forgotten

pub settled_ready : (r : Result (Unit {0}) Verdict) (limits : LabelLimits) (s : TimeSeries) (old staged new : Stores) (v : Verdict) → IsReady old → HoldsNoneRefused limits old.kept → staged.kept ≡ old.kept
    → StoreGives r (taken limits old.staged s) staged.staged → SettlesTo r staged v new → new.staged ≡ new.kept → new.noted ≡ 0 → IsReady new × HoldsNoneRefused limits new.kept
settled_ready (Ok u) limits s old staged new v ready within kept gives settles same none =
    let grown : Grown old.kept new.kept (sample_count (s ∷ [])) = kept_grown limits (s ∷ []) old staged.staged new.kept ready gives settles.1 in (
      ready_again old.kept (sample_count (s ∷ [])) new grown same none,
      subst (HoldsNoneRefused limits) (sym settles.1)
          (taken_within limits s old.staged staged.staged (subst (HoldsNoneRefused limits) (sym ready.settled) within) gives),
    )
settled_ready (Err e) limits s old staged new v ready within kept gives settles same none = (
  ready_still old staged new ready kept settles.1 (same ∙ settles.1) none,
  subst (HoldsNoneRefused limits) (sym (settles.1 ∙ kept)) within,
)

-- what comes of it
pub record Answers (limits : LabelLimits) (s : TimeSeries) (old new : Store) (v : Verdict) : Type 0 where
  pub verdict : v ≢ NoMemory → v ≡ (apply limits old (s ∷ [])).verdict
  pub store : v ≢ NoMemory → new ≡ (apply limits old (s ∷ [])).store
  pub no_memory : v ≡ NoMemory → new ≡ old

pub settled_answers : (r : Result (Unit {0}) Verdict) (limits : LabelLimits) (s : TimeSeries) (old staged new : Stores) (v : Verdict) → IsReady old → staged.kept ≡ old.kept
    → StoreGives r (taken limits old.staged s) staged.staged → SettlesTo r staged v new → Answers limits s old.kept new.kept v
settled_answers (Ok u) limits s old staged new v ready kept gives settles =
    let given : taken limits old.kept s ≡ Ok staged.staged = ap (λ (t : Store). taken limits t s) (sym ready.settled) ∙ gives in record {
      verdict = λ other. settles.0 ∙ ap (λ (t : Store). Stored (total staged.staged - total t)) kept ∙ ap (λ (x : Result Store Verdict). (judged old.kept x).verdict) (sym given);
      store = λ other. settles.1 ∙ ap (λ (x : Result Store Verdict). (judged old.kept x).store) (sym given);
      no_memory = λ is. absurd (differ (sym settles.0 ∙ is));
    }
  where
    differ : {n : ℕ} → Stored n ≡ NoMemory → ⊥
    differ e = cc e
settled_answers (Err e) limits s old staged new v ready kept gives settles = record {
  verdict = λ other. settles.0 ∙ ap (λ (x : Result Store Verdict). (judged old.kept x).verdict) (sym (refused other));
  store = λ other. settles.1 ∙ kept ∙ ap (λ (x : Result Store Verdict). (judged old.kept x).store) (sym (refused other));
  no_memory = λ is. settles.1 ∙ kept;
}
  where
    refused : v ≢ NoMemory → taken limits old.kept s ≡ Err e
    refused other = ap (λ (t : Store). taken limits t s) (sym ready.settled) ∙ gives (λ is. other (settles.0 ∙ is))

-- a series of one sample of the label set at a place
abbrev pub one_at : List Labels → ℕ → ℤ → ℕ → TimeSeries
one_at names n t word = record { labels = get_or names n []; samples = (word, t) ∷ [] }

-- its timestamp as the program has it
pub gives_one : (r : Result (Unit {0}) Verdict) (limits : LabelLimits) (old next : Store) (names : List Labels) (n : ℕ) (t : ℤ) (word : ℕ) → FitsSigned w64 t
    → StoreGives r (taken limits old (one_at names n (to_z w64 (of_z w64 t)) word)) next → StoreGives r (taken limits old (one_at names n t word)) next
gives_one r limits old next names n t word fits gives =
    subst (λ (z : ℤ). StoreGives r (taken limits old (one_at names n z word)) next) (to_z-of_z w64 t fits) gives
