-- A log that grows, and what was read of it.
use Rattle.std.proofs.Common.{◌≡◌, subst, ℕ, ◌+◌, ◌≤◌, List, [], ◌∷◌, ◌++◌, length, take, refl, sym, ap, ◌∙◌, arith}
use Rattle.std.proofs.lemmas.Grind.{common_steps}
use Rattle.std.proofs.lemmas.List.{append-nil, append_assoc}
use Rattle.std.specs.Prelude.{Option, Result, Ok, Err}
use Rattle.std.specs.Result.{IsErrAnd}
use Rattle.rw_follow.specs.Growth.{Gives, Grown, HadAll, HasNextSegment, IsGivenAt, IsLastSegment, IsReadOf, IsSegmentRead, Later, Moment, texts}
use Rattle.rw_follow.specs.Meals.{Meal, read_by, with_next}

-- no segment goes
pub grown_length : (xs ys : List (List ℕ)) → Grown xs ys → length xs ≤ length ys
grown_length [] ys h = omega arith
grown_length (x ∷ xs) [] h = absurd h
grown_length (x ∷ []) (y ∷ ys) h = omega arith
grown_length (x ∷ w ∷ xs) (y ∷ ys) h = let r = grown_length (w ∷ xs) ys h.1 in omega (arith, r)

-- how many segments are there
pub texts_length : (m : Moment) → length (texts m) ≡ length m.done + 1 + length m.after
texts_length m = grind (arith, common_steps)

none_of : {A : Type 0} (xs : List A) → length xs ≤ 0 → xs ≡ []
none_of [] h = refl
none_of (x ∷ xs) h = let no : ⊥ = omega (arith, h) in absurd no

after_grows : (m n : Moment) (bytes : List ℕ) → Later m bytes n → length m.after ≤ length n.after
after_grows m n bytes p =
    let l = grown_length (texts m) (texts n) p.grown in
    let a = texts_length m in
    let b = texts_length n in
    let d = ap (λ (xs : List (List ℕ)). length xs) p.done in
    omega (arith, l, a, b, d)

-- ---- what comes after

pub stays_followed : (m n : Moment) (bytes : List ℕ) → Later m bytes n → HasNextSegment m → HasNextSegment n
stays_followed m n bytes p h = let l = after_grows m n bytes p in omega (arith, l, h)

was_last : (m n : Moment) → Later m [] n → IsLastSegment n → IsLastSegment m
was_last m n p h = let l = after_grows m n [] p in let z = ap (λ (xs : List (List ℕ)). length xs) h in none_of m.after (omega (arith, l, z))

-- nothing was left, and then nothing came after it
pub had_all : (m n : Moment) (meal : Meal) → Later m [] n → IsGivenAt meal m → IsSegmentRead m → IsLastSegment n → HadAll meal n
had_all m n meal p h r l = record { earlier = m; later = p; given = h; is_read = r; is_last = was_last m n p l }

-- ---- a log in memory

pub grown_same : (xs : List (List ℕ)) → Grown xs xs
grown_same [] = tt
grown_same (x ∷ []) = ([], sym (append-nil x))
grown_same (x ∷ w ∷ xs) = (refl, grown_same (w ∷ xs))

-- a last segment that grows
pub grown_last : (xs : List (List ℕ)) (x more : List ℕ) → Grown (xs ++ x ∷ []) (xs ++ (x ++ more) ∷ [])
grown_last [] x more = (more, refl)
grown_last (y ∷ []) x more = (refl, (more, refl))
grown_last (y ∷ w ∷ xs) x more = (refl, grown_last (w ∷ xs) x more)

-- a segment that comes
pub grown_next : (xs : List (List ℕ)) (y : List ℕ) → Grown xs (xs ++ y ∷ [])
grown_next [] y = tt
grown_next (x ∷ []) y = ([], sym (append-nil x))
grown_next (x ∷ w ∷ xs) y = (refl, grown_next (w ∷ xs) y)

grown_none : {P : Type 0} (y : List ℕ) (ys : List (List ℕ)) → Grown (y ∷ ys) [] → P
grown_none y [] h = absurd h
grown_none y (v ∷ ys) h = absurd h

pub grown_on : (xs ys zs : List (List ℕ)) → Grown xs ys → Grown ys zs → Grown xs zs
grown_on [] ys zs g h = tt
grown_on (x ∷ xs) [] zs g h = absurd g
grown_on (x ∷ []) (y ∷ ys) [] g h = grown_none y ys h
grown_on (x ∷ w ∷ xs) (y ∷ ys) [] g h = grown_none y ys h
grown_on (x ∷ []) (y ∷ []) (z ∷ zs) g h = (g.0 ++ h.0, h.1 ∙ ap (λ t. t ++ h.0) g.1 ∙ append_assoc x g.0 h.0)
grown_on (x ∷ []) (y ∷ v ∷ ys) (z ∷ zs) g h = (g.0, h.0 ∙ g.1)
grown_on (x ∷ w ∷ xs) (y ∷ []) (z ∷ zs) g h = absurd g.1
grown_on (x ∷ w ∷ xs) (y ∷ v ∷ ys) (z ∷ zs) g h = (h.0 ∙ g.0, grown_on (w ∷ xs) (v ∷ ys) zs g.1 h.1)

pub later_on : (l m n : Moment) → Later l [] m → Later m [] n → Later l [] n
later_on l m n g h = record {
  done = h.done ∙ g.done;
  given = h.given ∙ ap (λ b. b ++ []) g.given ∙ append-nil (l.given ++ []);
  grown = grown_on (texts l) (texts m) (texts n) g.grown h.grown;
}

pub later_same : (m : Moment) → Later m [] m
later_same m = record { done = refl; given = sym (append-nil m.given); grown = grown_same (texts m) }

pub later_gap : (m : Moment) (gap : Option ℕ) → Later m [] (record m { gap = gap })
later_gap m gap = record { done = refl; given = sym (append-nil m.given); grown = grown_same (texts m) }

pub later_more : (m : Moment) (bytes : List ℕ) → m.after ≡ [] → Later m [] (record m { rest = m.rest ++ bytes })
later_more m bytes none = record {
  done = refl;
  given = sym (append-nil m.given);
  grown = rw (none, sym (append_assoc m.given m.rest bytes)) (grown_last m.done (m.given ++ m.rest) bytes);
}

pub later_next : (m : Moment) (text : List ℕ) → Later m [] (record m { after = m.after ++ text ∷ [] })
later_next m text = record {
  done = refl;
  given = sym (append-nil m.given);
  grown = rw (sym (append_assoc m.done ((m.given ++ m.rest) ∷ m.after) (text ∷ []))) (grown_next (texts m) text);
}

pub later_turn : (m : Moment) (bytes text : List ℕ) → m.after ≡ [] → Later m [] (record m { rest = m.rest ++ bytes; after = m.after ++ text ∷ [] })
later_turn m bytes text none =
    let more : Moment = record m { rest = m.rest ++ bytes } in
    later_on m more (record more { after = more.after ++ text ∷ [] }) (later_more m bytes none) (later_next more text)

-- ---- what was read

-- nothing more was read
pub read_same : (start m n : Moment) (meal : Meal) → Later m [] n → IsReadOf start meal m → IsReadOf start meal n
read_same start m n meal p h = record {
  given = record { whole = h.given.whole ∙ sym p.done; begun = h.given.begun ∙ sym (append-nil m.given) ∙ sym p.given };
  grown = grown_on (texts start) (texts m) (texts n) h.grown p.grown;
}

-- and a read that fails gives nothing
pub read_failed : {E : Type 0} (P : E → Type 0) (r : Result ℕ E) (buf : List ℕ) (start m n : Moment) (meal : Meal) → IsErrAnd r P → Later m [] n → IsReadOf start meal m → IsReadOf start (read_by r buf meal) n
read_failed P (Ok k) buf start m n meal is p h = absurd is
read_failed P (Err e) buf start m n meal is p h = read_same start m n meal p h

given_texts : (m n : Moment) (bytes : List ℕ) → n.done ≡ m.done → n.after ≡ m.after → m.rest ≡ bytes ++ n.rest → n.given ≡ m.given ++ bytes → texts m ≡ texts n
given_texts m n bytes d a r v = rw (d, a, r, v) (ap (λ t. m.done ++ t ∷ m.after) (sym (append_assoc m.given bytes n.rest)))

-- these bytes more
read_bytes : (start m n : Moment) (bytes : List ℕ) (meal : Meal) → n.done ≡ m.done → n.after ≡ m.after → m.rest ≡ bytes ++ n.rest → n.given ≡ m.given ++ bytes → IsReadOf start meal m → IsReadOf start (record meal { begun = meal.begun ++ bytes }) n
read_bytes start m n bytes meal d a r v h = record {
  given = record { whole = h.given.whole ∙ sym d; begun = ap (λ b. b ++ bytes) h.given.begun ∙ sym v };
  grown = subst (λ t. Grown (texts start) t) (given_texts m n bytes d a r v) h.grown;
}

pub read_on : {E : Type 0} (r : Result ℕ E) (buf : List ℕ) (start l m n : Moment) (meal : Meal) → Later l [] m → Gives m n r buf → n.done ≡ m.done → n.after ≡ m.after → IsReadOf start meal l → IsReadOf start (read_by r buf meal) n
read_on (Ok k) buf start l m n meal p g d a h = read_bytes start m n (take k buf) meal d a g.0 g.1.0 (read_same start l m meal p h)
read_on (Err e) buf start l m n meal p g d a h =
    let same = read_bytes start m n [] meal d a (sym g.1) (g.0 ∙ sym (append-nil m.given)) (read_same start l m meal p h) in
    subst (λ b. IsReadOf start (record meal { begun = b }) n) (append-nil meal.begun) same

same_texts : (m n : Moment) → n.done ≡ m.done ++ m.given ∷ [] → n.given ≡ [] → n.rest ∷ n.after ≡ m.after → m.rest ≡ [] → texts m ≡ texts n
same_texts m n d v a r = rw (sym a, r, d, v, append-nil) (sym (append_assoc m.done (m.given ∷ []) (n.rest ∷ n.after)))

-- and the end of the segment
pub read_next : (start m n : Moment) (meal : Meal) → n.done ≡ m.done ++ m.given ∷ [] → n.given ≡ [] → n.rest ∷ n.after ≡ m.after → m.rest ≡ [] → IsReadOf start meal m → IsReadOf start (with_next meal) n
read_next start m n meal d v a r h = record {
  given = record {
    whole = let w = h.given.whole in let b = h.given.begun in grind (arith, common_steps);
    begun = sym v;
  };
  grown = subst (λ t. Grown (texts start) t) (same_texts m n d v a r) h.grown;
}
