-- The samples that rise, also among those from a time on.
use Rattle.std.proofs.Common.{◌≡◌, ℕ, ℤ, pos, negsuc, int_lt, ltb, Bool, true, false, true≢false, not, ◌&&◌, cond, List, [], ◌∷◌, ◌++◌, append-nil, append_assoc, refl, sym, ap, ◌∙◌, subst, arith}
use Rattle.std.proofs.lemmas.Bool.{and_from, and_parts, cond-true}
use Rattle.std.proofs.lemmas.Bool.Decides.{nat_tests}
use Rattle.std.proofs.lemmas.List.Elements.{filter-append}
use Rattle.std.specs.List.{AllByRecursion}
use Rattle.rw_types.specs.Rising.{Rises}
use Rattle.rw_types.proofs.shared.AllLemmas.{AllByRecursion-right}
use Rattle.rw_types.proofs.shared.TimeLemmas.{int_lt-trans}
use Rattle.rw_types.proofs.shared.Booleans.{either}
use Rattle.rw_head.specs.Lists.{IsEarlier}
use Rattle.rw_head.specs.Order.{Point}
use Rattle.rw_restarts.specs.Owed.{is_after_each, rising_after, rising, EndsWith, is_from, those_from}

-- ---- timestamps
before_floor : (d t f : ℕ) → ltb d f ≡ true → ltb t f ≡ false → ltb d t ≡ true
before_floor d t f h k = grind (arith, nat_tests)

before_floor_down : (d t f : ℕ) → ltb f d ≡ true → ltb f t ≡ false → ltb t d ≡ true
before_floor_down d t f h k = grind (arith, nat_tests)

-- what is before a time is before all that is not
is_before : (d t f : ℤ) → int_lt d f ≡ true → int_lt t f ≡ false → int_lt d t ≡ true
is_before (pos d) (pos t) (pos f) h k = before_floor d t f h k
is_before (pos d) (pos t) (negsuc f) h k = absurd cc
is_before (pos d) (negsuc t) (pos f) h k = absurd cc
is_before (pos d) (negsuc t) (negsuc f) h k = absurd cc
is_before (negsuc d) (pos t) f h k = refl
is_before (negsuc d) (negsuc t) (pos f) h k = absurd cc
is_before (negsuc d) (negsuc t) (negsuc f) h k = before_floor_down d t f h k

-- ---- those that rise
later_than_each : (t : ℤ) (b : List Point) (p : Point) (ps : List Point) → is_after_each t (b ++ p ∷ ps) ≡ true → int_lt p.0 t ≡ true
later_than_each t [] p ps h = (and_parts (int_lt p.0 t) (is_after_each t ps) h).0
later_than_each t (q ∷ b) p ps h = later_than_each t b p ps (and_parts (int_lt q.0 t) (is_after_each t (b ++ p ∷ ps)) h).1

later_than_before : (b : List Point) (p : Point) (d ps : List Point) → AllByRecursion (IsEarlier p) (rising_after (b ++ p ∷ d) ps)
later_than_before b p d [] = tt
later_than_before b p d (q ∷ ps) =
    let more : List Point = rising_after ((b ++ p ∷ d) ++ q ∷ []) ps in
    let rest : AllByRecursion (IsEarlier p) more = subst (λ bs. AllByRecursion (IsEarlier p) (rising_after bs ps)) (sym (append_assoc b (p ∷ d) (q ∷ []))) (later_than_before b p (d ++ q ∷ []) ps) in
    either (AllByRecursion (IsEarlier p)) (is_after_each q.0 (b ++ p ∷ d)) (q ∷ more) more (λ h. (later_than_each q.0 b p d h, rest)) (λ _. rest)

pub Rises-rising_after : (before ps : List Point) → Rises IsEarlier (rising_after before ps)
Rises-rising_after before [] = tt
Rises-rising_after before (p ∷ ps) =
    let more : List Point = rising_after (before ++ p ∷ []) ps in
    either (Rises IsEarlier) (is_after_each p.0 before) (p ∷ more) more (λ _. (later_than_before before p [] ps, Rises-rising_after (before ++ p ∷ []) ps)) (λ _. Rises-rising_after (before ++ p ∷ []) ps)

-- ---- those that rise, in two parts
push_either : (b : Bool) (p : Point) (now later more : List Point) → now ≡ later ++ more → cond b (p ∷ now) now ≡ cond b (p ∷ later) later ++ more
push_either true p now later more e = ap (λ ps. p ∷ ps) e
push_either false p now later more e = e

pub rising_after-append : (before xs ys : List Point) → rising_after before (xs ++ ys) ≡ rising_after before xs ++ rising_after (before ++ xs) ys
rising_after-append before [] ys = ap (λ b. rising_after b ys) (sym (append-nil before))
rising_after-append before (p ∷ xs) ys =
    push_either (is_after_each p.0 before) p (rising_after (before ++ p ∷ []) (xs ++ ys)) (rising_after (before ++ p ∷ []) xs) (rising_after (before ++ p ∷ xs) ys)
    (rising_after-append (before ++ p ∷ []) xs ys ∙ ap (λ b. rising_after (before ++ p ∷ []) xs ++ rising_after b ys) (append_assoc before (p ∷ []) xs))

pub rising-next : (ps : List Point) (p : Point) → rising (ps ++ p ∷ []) ≡ rising ps ++ cond (is_after_each p.0 ps) (p ∷ []) []
rising-next ps p = rising_after-append [] ps (p ∷ [])

-- ---- a list that rises
is_after_all : (before : List Point) (p : Point) (ps : List Point) → Rises IsEarlier (before ++ p ∷ ps) → is_after_each p.0 before ≡ true
is_after_all [] p ps h = refl
is_after_all (x ∷ before) p ps h =
    and_from (int_lt x.0 p.0) (is_after_each p.0 before) (AllByRecursion-right (IsEarlier x) before (p ∷ ps) h.0).0 (is_after_all before p ps h.1)

rising_after-itself : (before ps : List Point) → Rises IsEarlier (before ++ ps) → rising_after before ps ≡ ps
rising_after-itself before [] h = refl
rising_after-itself before (p ∷ ps) h =
    let rest : rising_after (before ++ p ∷ []) ps ≡ ps = rising_after-itself (before ++ p ∷ []) ps (subst (Rises IsEarlier) (sym (append_assoc before (p ∷ []) ps)) h) in
    cond-true (is_after_each p.0 before) (p ∷ rising_after (before ++ p ∷ []) ps) (rising_after (before ++ p ∷ []) ps) (is_after_all before p ps h) ∙ ap (λ ys. p ∷ ys) rest

-- it is what rises of it
pub rising-itself : (ps : List Point) → Rises IsEarlier ps → rising ps ≡ ps
rising-itself ps h = rising_after-itself [] ps h

-- ---- those from a time on
module _ (floor : ℤ) where
  -- of one that is from that time on, what is older need not be looked at
  after_kept : (t : ℤ) (b : List Point) → int_lt t floor ≡ false → is_after_each t (those_from floor b) ≡ is_after_each t b
  after_kept t [] k = refl
  after_kept t (d ∷ ds) k = by_time (int_lt d.0 floor) refl (after_kept t ds k)
    where
      by_time : (b : Bool) → int_lt d.0 floor ≡ b → is_after_each t (those_from floor ds) ≡ is_after_each t ds
          → is_after_each t (cond (not b) (d ∷ those_from floor ds) (those_from floor ds)) ≡ (int_lt d.0 t && is_after_each t ds)
      by_time true e rest = rest ∙ ap (λ c. c && is_after_each t ds) (sym (is_before d.0 t floor e k))
      by_time false e rest = ap (λ c. int_lt d.0 t && c) rest

  pub rising-from : (b xs : List Point) → rising_after (those_from floor b) (those_from floor xs) ≡ those_from floor (rising_after b xs)
  rising-from b [] = refl
  rising-from b (p ∷ ps) = by_time (int_lt p.0 floor) refl (rising-from (b ++ p ∷ []) ps)
    where
      R : List Point
      R = rising_after (b ++ p ∷ []) ps

      dropped : (c : Bool) → int_lt p.0 floor ≡ true → those_from floor (cond c (p ∷ R) R) ≡ those_from floor R
      dropped true e = ap (λ (h : Bool). cond (not h) (p ∷ those_from floor R) (those_from floor R)) e
      dropped false e = refl

      left : (c : Bool) → int_lt p.0 floor ≡ false → those_from floor (cond c (p ∷ R) R) ≡ cond c (p ∷ those_from floor R) (those_from floor R)
      left true e = ap (λ (h : Bool). cond (not h) (p ∷ those_from floor R) (those_from floor R)) e
      left false e = refl

      by_time : (h : Bool) → int_lt p.0 floor ≡ h → rising_after (those_from floor (b ++ p ∷ [])) (those_from floor ps) ≡ those_from floor R
          → rising_after (those_from floor b) (cond (not h) (p ∷ those_from floor ps) (those_from floor ps)) ≡ those_from floor (cond (is_after_each p.0 b) (p ∷ R) R)
      by_time true e more =
          let same : those_from floor (b ++ p ∷ []) ≡ those_from floor b =
          filter-append (is_from floor) b (p ∷ []) ∙ ap (λ (h : Bool). those_from floor b ++ cond (not h) (p ∷ []) []) e ∙ append-nil (those_from floor b) in
          ap (λ ys. rising_after ys (those_from floor ps)) (sym same) ∙ more ∙ sym (dropped (is_after_each p.0 b) e)
      by_time false e more =
          let same : those_from floor (b ++ p ∷ []) ≡ those_from floor b ++ p ∷ [] =
          filter-append (is_from floor) b (p ∷ []) ∙ ap (λ (h : Bool). those_from floor b ++ cond (not h) (p ∷ []) []) e in
          ap (λ c. cond c (p ∷ rising_after (those_from floor b ++ p ∷ []) (those_from floor ps)) (rising_after (those_from floor b ++ p ∷ []) (those_from floor ps))) (after_kept p.0 b e)
          ∙ ap (λ ys. cond (is_after_each p.0 b) (p ∷ ys) ys) (ap (λ zs. rising_after zs (those_from floor ps)) (sym same) ∙ more)
          ∙ sym (left (is_after_each p.0 b) e)

  pub all_from : (xs : List Point) → AllByRecursion (λ (p : Point). is_from floor p ≡ true) xs → those_from floor xs ≡ xs
  all_from [] all = refl
  all_from (x ∷ xs) all = ap (λ b. cond b (x ∷ those_from floor xs) (those_from floor xs)) all.0 ∙ ap (λ ys. x ∷ ys) (all_from xs all.1)

  not_before : (x y : Point) → int_lt x.0 floor ≡ false → IsEarlier x y → (b : Bool) → int_lt y.0 floor ≡ b → not b ≡ true
  not_before x y h lt true e = absurd (true≢false (sym (int_lt-trans x.0 y.0 floor lt e) ∙ h))
  not_before x y h lt false e = refl

  each_from : (x : Point) (xs : List Point) → int_lt x.0 floor ≡ false → AllByRecursion (IsEarlier x) xs → AllByRecursion (λ (p : Point). is_from floor p ≡ true) xs
  each_from x [] h all = tt
  each_from x (y ∷ ys) h all = (not_before x y h all.0 (int_lt y.0 floor) refl, each_from x ys h all.1)

  -- of a list that rises they are an end
  pub end_from : (xs : List Point) → Rises IsEarlier xs → EndsWith xs (those_from floor xs)
  end_from [] up = ([], refl)
  end_from (x ∷ xs) up = by_time (int_lt x.0 floor) refl (end_from xs up.1)
    where
      by_time : (b : Bool) → int_lt x.0 floor ≡ b → EndsWith xs (those_from floor xs) → EndsWith (x ∷ xs) (cond (not b) (x ∷ those_from floor xs) (those_from floor xs))
      by_time true e more = (x ∷ more.0, ap (λ ys. x ∷ ys) more.1)
      by_time false e more = ([], ap (λ ys. x ∷ ys) (sym (all_from xs (each_from x xs e up.0))))

  pub floor-end : (xs : List Point) → EndsWith (rising xs) (rising (those_from floor xs))
  floor-end xs =
      let end = end_from (rising xs) (Rises-rising_after [] xs) in
      (end.0, end.1 ∙ ap (λ ys. end.0 ++ ys) (sym (rising-from [] xs)))
