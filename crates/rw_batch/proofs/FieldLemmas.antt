-- The fields of samples in a row.
use Rattle.std.proofs.Common.{◌≡◌, ℕ, zero, suc, ◌+◌, ◌*◌, ◌-◌, ◌≤◌, ◌<◌, List, [], ◌∷◌, ◌++◌, length, take, drop, get_or, Some, slice_get, slice_range, sym, ap, ◌∙◌, add-one, take-append-drop, length-append, append_assoc, inl, inr, pos, arith}
use Rattle.std.proofs.Math.Seq.{take-suc, take-append_seam, drop-append_seam}
use Rattle.std.proofs.lemmas.List.{append-nil, length_push, take-append-le, take_all}
use Rattle.std.proofs.lemmas.List.Concat.{flat_map-cons}
use Rattle.std.proofs.lemmas.Grind.{flat_map-append}
use Rattle.std.proofs.lemmas.Option.{slice_get-get_or, get_or_from_slice_get}
use Rattle.rw_write_request.specs.Canon.{sample_field, sample_fields}
use Rattle.rw_write_request.specs.Message.{Sample}
use Rattle.rw_write_request.proofs.shared.Spelled.{sample-field-length}
use Rattle.rw_plain_queue.proofs.shared.Lists.{get_snoc, get_below}
use Rattle.rw_batch.specs.inner.Kept.{field_at}

pub one_field : (s : Sample) → sample_fields (s ∷ []) ≡ sample_field s
one_field s = flat_map-cons sample_field s [] ∙ append-nil (sample_field s)

pub fields-append : (ss ts : List Sample) → sample_fields (ss ++ ts) ≡ sample_fields ss ++ sample_fields ts
fields-append ss ts = flat_map-append sample_field ss ts

pub fields-push : (ss : List Sample) (s : Sample) → sample_fields (ss ++ s ∷ []) ≡ sample_fields ss ++ sample_field s
fields-push ss s = fields-append ss (s ∷ []) ∙ ap (λ (b : List ℕ). sample_fields ss ++ b) (one_field s)

-- the samples up to one of them
pub take_at : (ss : List Sample) (k : ℕ) (s : Sample) → slice_get ss k ≡ Some s → take (k + 1) ss ≡ take k ss ++ s ∷ []
take_at ss k s e =
    ap (λ (n : ℕ). take n ss) (add-one k) ∙ take-suc ss k s (get_below ss k s e) ∙ ap (λ (y : Sample). take k ss ++ y ∷ []) (get_or_from_slice_get ss k s s e)

front_at : (ss : List Sample) (k : ℕ) (s : Sample) → slice_get ss k ≡ Some s → sample_fields (take (k + 1) ss) ≡ sample_fields (take k ss) ++ sample_field s
front_at ss k s e = ap (λ (ts : List Sample). sample_fields ts) (take_at ss k s e) ∙ fields-push (take k ss) s

cut : (a b c : List ℕ) → slice_range ((a ++ b) ++ c) (length a) (length (a ++ b)) ≡ b
cut a b c =
    let n : length (a ++ b) - length a ≡ length b = omega (arith, length-append a b) in
    ap (λ (w : List ℕ). take (length (a ++ b) - length a) (drop (length a) w)) (append_assoc a b c)
    ∙ ap (λ (w : List ℕ). take (length (a ++ b) - length a) w) (drop-append_seam a (b ++ c))
    ∙ ap (λ (m : ℕ). take m (b ++ c)) n ∙ take-append_seam b c

-- between the marks of a sample is its field
pub field_between : (ss : List Sample) (k : ℕ) (s : Sample) → slice_get ss k ≡ Some s →
    slice_range (sample_fields ss) (length (sample_fields (take k ss))) (length (sample_fields (take (k + 1) ss))) ≡ sample_field s
field_between ss k s e =
    let a = sample_fields (take k ss) in
    let b = sample_field s in
    let c = sample_fields (drop (k + 1) ss) in
    let whole : sample_fields ss ≡ (a ++ b) ++ c =
    sym (ap (λ (ts : List Sample). sample_fields ts) (take-append-drop (k + 1) ss)) ∙ fields-append (take (k + 1) ss) (drop (k + 1) ss) ∙ ap (λ (w : List ℕ). w ++ c) (front_at ss k s e) in
    ap (λ (w : List ℕ). slice_range w (length a) (length (sample_fields (take (k + 1) ss)))) whole
    ∙ ap (λ (w : List ℕ). slice_range ((a ++ b) ++ c) (length a) (length w)) (front_at ss k s e)
    ∙ cut a b c

drop_at_sample : (ss : List Sample) (k : ℕ) (s : Sample) → slice_get ss k ≡ Some s → take 1 (drop k ss) ≡ s ∷ []
drop_at_sample [] k s e = absurd cc
drop_at_sample (x ∷ ss) zero s e = let same : x ≡ s = cc in ap (λ (y : Sample). y ∷ []) same
drop_at_sample (x ∷ ss) (suc k) s e = drop_at_sample ss k s e

pub field_at-is : (ss : List Sample) (k : ℕ) (s : Sample) → slice_get ss k ≡ Some s → field_at ss k ≡ sample_field s
unfolding field_at
field_at-is ss k s e = ap (λ (ts : List Sample). sample_fields ts) (drop_at_sample ss k s e) ∙ one_field s

-- their length
pub fields_short : (ss : List Sample) → length (sample_fields ss) ≤ 22 * length ss
fields_short [] = omega arith
fields_short (s ∷ ss) = omega (arith, ap length (flat_map-cons sample_field s ss), length-append (sample_field s) (sample_fields ss), sample-field-length s, fields_short ss)

-- the marks after one more sample
pub marks_more : (ss : List Sample) (s : Sample) (marks : List ℕ) (mark : ℕ) → length marks ≡ length ss + 1 → ((k m : ℕ) → slice_get marks k ≡ Some m → m ≡ length (sample_fields (take k ss)))
    → mark ≡ length (sample_fields (ss ++ s ∷ [])) → (k m : ℕ) → slice_get (marks ++ mark ∷ []) k ≡ Some m → m ≡ length (sample_fields (take k (ss ++ s ∷ [])))
marks_more ss s marks mark len are is k m e =
    elim (get_snoc marks mark m k e) [
      | inl old ↦
          let below = get_below marks k m old in
          are k m old ∙ ap (λ (ts : List Sample). length (sample_fields ts)) (sym (take-append-le k ss (s ∷ []) (omega arith)))
      | inr end ↦
          let k_is = end.0 in
          let all : take k (ss ++ s ∷ []) ≡ ss ++ s ∷ [] = take_all k (ss ++ s ∷ []) (omega (arith, length_push ss s)) in
          sym end.1 ∙ is ∙ ap (λ (ts : List Sample). length (sample_fields ts)) (sym all)
    ]

pub no_marks : (ss : List Sample) (marks : List ℕ) → marks ≡ 0 ∷ [] → ss ≡ [] → (k m : ℕ) → slice_get marks k ≡ Some m → m ≡ length (sample_fields (take k ss))
no_marks ss marks e f zero m h = let at : slice_get (0 ∷ []) 0 ≡ Some m = ap (λ (xs : List ℕ). slice_get xs 0) (sym e) ∙ h in let same : 0 ≡ m = cc in sym same
no_marks ss marks e f (suc k) m h = let at : slice_get (0 ∷ []) (suc k) ≡ Some m = ap (λ (xs : List ℕ). slice_get xs (suc k)) (sym e) ∙ h in absurd cc

pub get_here : {A : Type 0} (xs : List A) (i : ℕ) (x : A) → i < length xs → x ≡ get_or xs i x → slice_get xs i ≡ Some x
get_here xs i x lt e = slice_get-get_or xs i x lt ∙ ap Some (sym e)

-- there is a sample at each number
sample_here : (ss : List Sample) (k : ℕ) → k < length ss → (s : Sample) × (slice_get ss k ≡ Some s)
sample_here ss k lt = (get_or ss k (0, pos 0), slice_get-get_or ss k (0, pos 0) lt)

pub marks_rise : (ss : List Sample) (k : ℕ) → k < length ss → length (sample_fields (take k ss)) ≤ length (sample_fields (take (k + 1) ss))
marks_rise ss k lt =
    let s = sample_here ss k lt in
    omega (arith, ap length (front_at ss k s.0 s.1), length-append (sample_fields (take k ss)) (sample_field s.0))

pub marks_within : (ss : List Sample) (k : ℕ) → length (sample_fields (take k ss)) ≤ length (sample_fields ss)
marks_within ss k =
    let whole : sample_fields ss ≡ sample_fields (take k ss) ++ sample_fields (drop k ss) =
    sym (ap (λ (ts : List Sample). sample_fields ts) (take-append-drop k ss)) ∙ fields-append (take k ss) (drop k ss) in
    omega (arith, ap length whole, length-append (sample_fields (take k ss)) (sample_fields (drop k ss)))

pub field_there : (ss : List Sample) (k : ℕ) (s : Sample) (bytes : List ℕ) (m n : ℕ) → bytes ≡ sample_fields ss → m ≡ length (sample_fields (take k ss)) → n ≡ length (sample_fields (take (k + 1) ss))
    → slice_get ss k ≡ Some s → slice_range bytes m n ≡ sample_field s
field_there ss k s bytes m n e from to at =
    ap (λ (w : List ℕ). slice_range w m n) e ∙ ap (λ (i : ℕ). slice_range (sample_fields ss) i n) from
    ∙ ap (λ (i : ℕ). slice_range (sample_fields ss) (length (sample_fields (take k ss))) i) to ∙ field_between ss k s at

pub field_here : (ss : List Sample) (k : ℕ) (bytes : List ℕ) (m n : ℕ) → bytes ≡ sample_fields ss → m ≡ length (sample_fields (take k ss)) → n ≡ length (sample_fields (take (k + 1) ss))
    → k < length ss → slice_range bytes m n ≡ field_at ss k
field_here ss k bytes m n e from to lt =
    let s = sample_here ss k lt in field_there ss k s.0 bytes m n e from to s.1 ∙ sym (field_at-is ss k s.0 s.1)

-- a number of a list, whatever stands for one that is not there
pub number_is : (js : List ℕ) (i : ℕ) → i < length js → get_or js i 0 ≡ get_or js i (get_or js i 0)
number_is js i lt = sym (get_or_from_slice_get js i (get_or js i 0) (get_or js i 0) (slice_get-get_or js i 0 lt))
