-- The messages: what is read is spelled so, and what is spelled so is read.
use Rattle.std.proofs.Common.{◌≡◌, ◌≢◌, ℕ, ℤ, pos, true, false, eqb, List, [], ◌∷◌, ◌++◌, Option, Some, Result, Ok, Err, refl, sym, ap, subst, ◌∙◌, eq-eqb, arith, inl, inr, append_assoc}
use Rattle.std.specs.Prelude.{IfSome, IsUtf8}
use Rattle.std.specs.Int.{w64, cast_signed}
use Rattle.std.specs.Str.{is_utf8}
use Rattle.std.specs.List.{AllByRecursion}
use Rattle.std.proofs.lemmas.Bool.{ne_eqb, cases_eq}
use Rattle.std.proofs.lemmas.List.{append-nil}
use Rattle.std.proofs.lemmas.Str.{IsUtf8-from_is_utf8, is_utf8-from_IsUtf8}
use Rattle.rw_codes.specs.Varint.{◌>>=◌}
use Rattle.rw_write_request.specs.declared.fault.WireFault.{WireFault}
use Rattle.rw_write_request.specs.declared.fault.WireFault.TheVariants.{NotUtf8}
use Rattle.rw_write_request.specs.declared.kind.Kind.{Kind}
use Rattle.rw_write_request.specs.declared.kind.Kind.TheVariants as kinds
use Rattle.rw_types.specs.Labels.{Label}
use Rattle.rw_write_request.specs.Message.{Sample, TimeSeries, WriteRequest}
use Rattle.rw_write_request.specs.Fields.{Content, Varint, Fixed64, Bytes, Fixed32, Field, wire_of, known_wire, HasKnownWire, contents}
use Rattle.rw_write_request.specs.Spells.{last_or, IsText, SpellsLabel, SpellsSample, EachSpells, SpellsSeries, Spells}
use Rattle.rw_write_request.specs.Parts.{series_on}
use Rattle.rw_write_request.specs.Read.{text, word, timestamp, nested, label_step, read_label, sample_step, read_sample, series_step, read_series, request_step, read}
use Rattle.rw_write_request.proofs.Results.{bind_ok, bind-is, chosen}
use Rattle.rw_write_request.proofs.Grammar.{fold_fields, read-takes, read-again}

abbrev pub done : {X : Type 0} → X → Result X WireFault
done x = Ok x

pub ok_is : {X : Type 0} (x y : X) → done x ≡ done y → x ≡ y
ok_is x y e = cc

-- ---- a message of two fields, each of which acts on a part of its own

abbrev fold_contents : {P : Type 0} → (P → Content → Result P WireFault) → P → List Content → Result P WireFault
fold_contents act p [] = Ok p
fold_contents act p (c ∷ cs) = act p c >>= λ next. fold_contents act next cs

record IsTwo {X P Q : Type 0} (step : X → Field → Result X WireFault) (make : P → Q → X) (one : P → Content → Result P WireFault) (two : Q → Content → Result Q WireFault) : Type 0 where
  first : (p : P) (q : Q) (f : Field) → f.number ≡ 1 → step (make p q) f ≡ (one p f.content >>= λ next. Ok (make next q))
  second : (p : P) (q : Q) (f : Field) → f.number ≡ 2 → step (make p q) f ≡ (two q f.content >>= λ next. Ok (make p next))
  other : (p : P) (q : Q) (f : Field) → f.number ≢ 1 → f.number ≢ 2 → step (make p q) f ≡ Ok (make p q)

record Parts {X P Q : Type 0} (make : P → Q → X) (one : P → Content → Result P WireFault) (two : Q → Content → Result Q WireFault) (p : P) (q : Q) (ones twos : List Content) (x : X) : Type 0 where
  p-end : P
  q-end : Q
  is : x ≡ make p-end q-end
  ones-fold : fold_contents one p ones ≡ Ok p-end
  twos-fold : fold_contents two q twos ≡ Ok q-end

two_take : {X P Q : Type 0} (step : X → Field → Result X WireFault) (make : P → Q → X) (one : P → Content → Result P WireFault) (two : Q → Content → Result Q WireFault) → IsTwo step make one two
    → (fs : List Field) (p : P) (q : Q) (x : X) → fold_fields step (make p q) fs ≡ Ok x → Parts make one two p q (contents 1 fs) (contents 2 fs) x
two_take step make one two h [] p q x e = record { p-end = p; q-end = q; is = sym (ok_is (make p q) x e); ones-fold = refl; twos-fold = refl }
two_take step make one two h (f ∷ fs) p q x e =
    elim (cases_eq f.number 1) [
      | inl n1 ↦
          let n2 : eqb f.number 2 ≡ false = ne_eqb f.number 2 (omega arith) in
          let t1 : eqb f.number 1 ≡ true = rw n1 refl in
          let a = bind_ok (one p f.content >>= λ next. Ok (make next q)) (λ next. fold_fields step next fs) x (rw (h.first p q f n1) at e) in
          let b = bind_ok (one p f.content) (λ next. Ok (make next q)) a.0 a.1 in
          let k : fold_fields step (make b.0 q) fs ≡ Ok x = ap (λ (y : _). fold_fields step y fs) (ok_is (make b.0 q) a.0 b.2) ∙ a.2 in
          let r = two_take step make one two h fs b.0 q x k in
          rw (t1, n2) (record { p-end = r.p-end; q-end = r.q-end; is = r.is; ones-fold = bind-is (one p f.content) (λ next. fold_contents one next (contents 1 fs)) b.0 (Ok r.p-end) b.1 r.ones-fold; twos-fold = r.twos-fold })
      | inr n1 ↦ elim (cases_eq f.number 2) [
        | inl n2 ↦
            let t1 : eqb f.number 1 ≡ false = ne_eqb f.number 1 n1 in
            let t2 : eqb f.number 2 ≡ true = rw n2 refl in
            let a = bind_ok (two q f.content >>= λ next. Ok (make p next)) (λ next. fold_fields step next fs) x (rw (h.second p q f n2) at e) in
            let b = bind_ok (two q f.content) (λ next. Ok (make p next)) a.0 a.1 in
            let k : fold_fields step (make p b.0) fs ≡ Ok x = ap (λ (y : _). fold_fields step y fs) (ok_is (make p b.0) a.0 b.2) ∙ a.2 in
            let r = two_take step make one two h fs p b.0 x k in
            rw (t1, t2) (record { p-end = r.p-end; q-end = r.q-end; is = r.is; ones-fold = r.ones-fold; twos-fold = bind-is (two q f.content) (λ next. fold_contents two next (contents 2 fs)) b.0 (Ok r.q-end) b.1 r.twos-fold })
        | inr n2 ↦
            let t1 : eqb f.number 1 ≡ false = ne_eqb f.number 1 n1 in
            let t2 : eqb f.number 2 ≡ false = ne_eqb f.number 2 n2 in
            let r = two_take step make one two h fs p q x (rw (h.other p q f n1 n2) at e) in
            rw (t1, t2) r
      ]
    ]

two_again : {X P Q : Type 0} (step : X → Field → Result X WireFault) (make : P → Q → X) (one : P → Content → Result P WireFault) (two : Q → Content → Result Q WireFault) → IsTwo step make one two
    → (fs : List Field) (p p-end : P) (q q-end : Q) → fold_contents one p (contents 1 fs) ≡ Ok p-end → fold_contents two q (contents 2 fs) ≡ Ok q-end → fold_fields step (make p q) fs ≡ Ok (make p-end q-end)
two_again step make one two h [] p p-end q q-end e1 e2 =
    ap (λ (z : _). Ok (make z q)) (ok_is p p-end e1) ∙ ap (λ (z : _). Ok (make p-end z)) (ok_is q q-end e2)
two_again step make one two h (f ∷ fs) p p-end q q-end e1 e2 =
    elim (cases_eq f.number 1) [
      | inl n1 ↦
          let n2 : eqb f.number 2 ≡ false = ne_eqb f.number 2 (omega arith) in
          let t1 : eqb f.number 1 ≡ true = rw n1 refl in
          let a = bind_ok (one p f.content) (λ next. fold_contents one next (contents 1 fs)) p-end (rw t1 at e1) in
          let k2 : fold_contents two q (contents 2 fs) ≡ Ok q-end = rw n2 at e2 in
          rw (h.first p q f n1, a.1) (two_again step make one two h fs a.0 p-end q q-end a.2 k2)
      | inr n1 ↦ elim (cases_eq f.number 2) [
        | inl n2 ↦
            let t1 : eqb f.number 1 ≡ false = ne_eqb f.number 1 n1 in
            let t2 : eqb f.number 2 ≡ true = rw n2 refl in
            let k1 : fold_contents one p (contents 1 fs) ≡ Ok p-end = rw t1 at e1 in
            let a = bind_ok (two q f.content) (λ next. fold_contents two next (contents 2 fs)) q-end (rw t2 at e2) in
            rw (h.second p q f n2, a.1) (two_again step make one two h fs p p-end a.0 q-end k1 a.2)
        | inr n2 ↦
            let t1 : eqb f.number 1 ≡ false = ne_eqb f.number 1 n1 in
            let t2 : eqb f.number 2 ≡ false = ne_eqb f.number 2 n2 in
            let k1 : fold_contents one p (contents 1 fs) ≡ Ok p-end = rw t1 at e1 in
            let k2 : fold_contents two q (contents 2 fs) ≡ Ok q-end = rw t2 at e2 in
            rw (h.other p q f n1 n2) (two_again step make one two h fs p p-end q q-end k1 k2)
      ]
    ]

-- the contents of a known field have its wire type
contents-wires : (kind : Kind) (k w : ℕ) (fs : List Field) → known_wire kind k ≡ Some w → AllByRecursion (HasKnownWire kind) fs → AllByRecursion (λ c. wire_of c ≡ w) (contents k fs)
contents-wires kind k w [] e h = tt
contents-wires kind k w (f ∷ fs) e h =
    elim (cases_eq f.number k) [
      | inl same ↦
          let t : eqb f.number k ≡ true = rw same (eqb-same k) in
          let known : IfSome (known_wire kind k) (λ x. wire_of f.content ≡ x) = subst (λ (n : ℕ). IfSome (known_wire kind n) (λ x. wire_of f.content ≡ x)) same h.0 in
          let here : wire_of f.content ≡ w = subst (λ (o : Option ℕ). IfSome o (λ x. wire_of f.content ≡ x)) e known in
          rw t (here, contents-wires kind k w fs e h.1)
      | inr other ↦ let t : eqb f.number k ≡ false = ne_eqb f.number k other in rw t (contents-wires kind k w fs e h.1)
    ]
  where
    eqb-same : (n : ℕ) → eqb n n ≡ true
    eqb-same n = eq-eqb n n refl

-- ---- strings

pub text-takes : (c : Content) (s : List ℕ) → text c ≡ Ok s → (c ≡ Bytes s) × IsUtf8 s
unfolding text
text-takes (Bytes bytes) s e =
    elim (chosen (is_utf8 bytes) (Ok bytes) (Err NotUtf8) (Ok s) e) [
      | inl p ↦ let q = ok_is bytes s p.1 in (ap Bytes q, subst (λ (b : List ℕ). IsUtf8 b) q (IsUtf8-from_is_utf8 bytes p.0))
      | inr p ↦ absurd (let r = p.1 in cc)
    ]
text-takes (Varint n) s e = absurd cc
text-takes (Fixed64 n) s e = absurd cc
text-takes (Fixed32 n) s e = absurd cc

strings_take : (cs : List Content) (p p-end : List ℕ) → fold_contents (λ _ c. text c) p cs ≡ Ok p-end → AllByRecursion IsText cs × (last_or (Bytes p) cs ≡ Bytes p-end)
strings_take [] p p-end e = (tt, ap Bytes (ok_is p p-end e))
strings_take (c ∷ cs) p p-end e =
    let a = bind_ok (text c) (λ next. fold_contents (λ _ c. text c) next cs) p-end e in
    let t = text-takes c a.0 a.1 in
    let h = strings_take cs a.0 p-end a.2 in
    rw t.0 ((t.1, h.0), h.1)

bytes_are : (x y : List ℕ) → Bytes x ≡ Bytes y → x ≡ y
bytes_are x y e = cc

strings_again : (cs : List Content) (p p-end : List ℕ) → AllByRecursion IsText cs → last_or (Bytes p) cs ≡ Bytes p-end → fold_contents (λ _ c. text c) p cs ≡ Ok p-end
unfolding text
strings_again [] p p-end h e = ap (λ (b : List ℕ). Ok b) (bytes_are p p-end e)
strings_again (Bytes bytes ∷ cs) p p-end h e = rw (is_utf8-from_IsUtf8 bytes h.0) (strings_again cs bytes p-end h.1 e)
strings_again (Varint n ∷ cs) p p-end h e = absurd h.0
strings_again (Fixed64 n ∷ cs) p p-end h e = absurd h.0
strings_again (Fixed32 n ∷ cs) p p-end h e = absurd h.0

-- ---- scalars

words_take : (cs : List Content) (p p-end : ℕ) → fold_contents (λ _ c. word c) p cs ≡ Ok p-end → last_or (Fixed64 p) cs ≡ Fixed64 p-end
unfolding word
words_take [] p p-end e = ap Fixed64 (ok_is p p-end e)
words_take (Fixed64 n ∷ cs) p p-end e = words_take cs n p-end e
words_take (Varint n ∷ cs) p p-end e = absurd cc
words_take (Bytes n ∷ cs) p p-end e = absurd cc
words_take (Fixed32 n ∷ cs) p p-end e = absurd cc

fixed_are : (x y : ℕ) → Fixed64 x ≡ Fixed64 y → x ≡ y
fixed_are x y e = cc

words_again : (cs : List Content) (p p-end : ℕ) → AllByRecursion (λ c. wire_of c ≡ 1) cs → last_or (Fixed64 p) cs ≡ Fixed64 p-end → fold_contents (λ _ c. word c) p cs ≡ Ok p-end
unfolding word
words_again [] p p-end h e = ap (λ (n : ℕ). Ok n) (fixed_are p p-end e)
words_again (Fixed64 n ∷ cs) p p-end h e = words_again cs n p-end h.1 e
words_again (Varint n ∷ cs) p p-end h e = absurd (let r = h.0 in omega arith)
words_again (Bytes n ∷ cs) p p-end h e = absurd (let r = h.0 in omega arith)
words_again (Fixed32 n ∷ cs) p p-end h e = absurd (let r = h.0 in omega arith)

times_take : (cs : List Content) (m : ℕ) (t t-end : ℤ) → t ≡ cast_signed w64 m → fold_contents (λ _ c. timestamp c) t cs ≡ Ok t-end → (n : ℕ) × (last_or (Varint m) cs ≡ Varint n) × (t-end ≡ cast_signed w64 n)
unfolding timestamp
times_take [] m t t-end s e = (m, refl, sym (ok_is t t-end e) ∙ s)
times_take (Varint n ∷ cs) m t t-end s e = times_take cs n (cast_signed w64 n) t-end refl e
times_take (Fixed64 n ∷ cs) m t t-end s e = absurd cc
times_take (Bytes n ∷ cs) m t t-end s e = absurd cc
times_take (Fixed32 n ∷ cs) m t t-end s e = absurd cc

varint_are : (x y : ℕ) → Varint x ≡ Varint y → x ≡ y
varint_are x y e = cc

times_again : (cs : List Content) (m n : ℕ) (t t-end : ℤ) → t ≡ cast_signed w64 m → AllByRecursion (λ c. wire_of c ≡ 0) cs → last_or (Varint m) cs ≡ Varint n → t-end ≡ cast_signed w64 n → fold_contents (λ _ c. timestamp c) t cs ≡ Ok t-end
unfolding timestamp
times_again [] m n t t-end s h e d = ap (λ (z : ℤ). Ok z) (s ∙ ap (cast_signed w64) (varint_are m n e) ∙ sym d)
times_again (Varint k ∷ cs) m n t t-end s h e d = times_again cs k n (cast_signed w64 k) t-end refl h.1 e d
times_again (Fixed64 k ∷ cs) m n t t-end s h e d = absurd (let r = h.0 in omega arith)
times_again (Bytes k ∷ cs) m n t t-end s h e d = absurd (let r = h.0 in omega arith)
times_again (Fixed32 k ∷ cs) m n t t-end s h e d = absurd (let r = h.0 in omega arith)

-- ---- nested messages

abbrev adds : {X : Type 0} → (List ℕ → Result X WireFault) → List X → Content → Result (List X) WireFault
adds reader xs c = nested reader c >>= λ x. Ok (xs ++ x ∷ [])

record Added {X : Type 0} (Spelling : List ℕ → X → Type 0) (cs : List Content) (xs xs-end : List X) : Type 0 where
  items : List X
  is : xs-end ≡ xs ++ items
  each : EachSpells Spelling cs items

nested_take : {X : Type 0} (reader : List ℕ → Result X WireFault) (Spelling : List ℕ → X → Type 0) → ((bytes : List ℕ) (x : X) → reader bytes ≡ Ok x → Spelling bytes x)
    → (cs : List Content) (xs xs-end : List X) → fold_contents (adds reader) xs cs ≡ Ok xs-end → Added Spelling cs xs xs-end
unfolding nested
nested_take reader Spelling h [] xs xs-end e = record { items = []; is = sym (ok_is xs xs-end e) ∙ sym (append-nil xs); each = tt }
nested_take reader Spelling h (Bytes bytes ∷ cs) xs xs-end e =
    let a = bind_ok (adds reader xs (Bytes bytes)) (λ next. fold_contents (adds reader) next cs) xs-end e in
    let b = bind_ok (reader bytes) (λ x. Ok (xs ++ x ∷ [])) a.0 a.1 in
    let k : fold_contents (adds reader) (xs ++ b.0 ∷ []) cs ≡ Ok xs-end = ap (λ (y : _). fold_contents (adds reader) y cs) (ok_is (xs ++ b.0 ∷ []) a.0 b.2) ∙ a.2 in
    let r = nested_take reader Spelling h cs (xs ++ b.0 ∷ []) xs-end k in
    record { items = b.0 ∷ r.items; is = r.is ∙ append_assoc xs (b.0 ∷ []) r.items; each = (h bytes b.0 b.1, r.each) }
nested_take reader Spelling h (Varint n ∷ cs) xs xs-end e = absurd cc
nested_take reader Spelling h (Fixed64 n ∷ cs) xs xs-end e = absurd cc
nested_take reader Spelling h (Fixed32 n ∷ cs) xs xs-end e = absurd cc

nested_again : {X : Type 0} (reader : List ℕ → Result X WireFault) (Spelling : List ℕ → X → Type 0) → ((bytes : List ℕ) (x : X) → Spelling bytes x → reader bytes ≡ Ok x)
    → (cs : List Content) (xs items : List X) → EachSpells Spelling cs items → fold_contents (adds reader) xs cs ≡ Ok (xs ++ items)
unfolding nested
nested_again reader Spelling h [] xs [] each = ap (λ (y : _). Ok y) (sym (append-nil xs))
nested_again reader Spelling h [] xs (x ∷ items) each = absurd each
nested_again reader Spelling h (Bytes bytes ∷ cs) xs [] each = absurd each
nested_again reader Spelling h (Bytes bytes ∷ cs) xs (x ∷ items) each =
    rw (h bytes x each.0) (nested_again reader Spelling h cs (xs ++ x ∷ []) items each.1 ∙ ap (λ (y : _). Ok y) (append_assoc xs (x ∷ []) items))
nested_again reader Spelling h (Varint n ∷ cs) xs [] each = absurd each
nested_again reader Spelling h (Varint n ∷ cs) xs (x ∷ items) each = absurd each
nested_again reader Spelling h (Fixed64 n ∷ cs) xs [] each = absurd each
nested_again reader Spelling h (Fixed64 n ∷ cs) xs (x ∷ items) each = absurd each
nested_again reader Spelling h (Fixed32 n ∷ cs) xs [] each = absurd each
nested_again reader Spelling h (Fixed32 n ∷ cs) xs (x ∷ items) each = absurd each

regroup : {A B C : Type 0} (r : Result A WireFault) (f : A → B) (g : B → C) → (r >>= λ x. Ok (g (f x))) ≡ ((r >>= λ x. Ok (f x)) >>= λ y. Ok (g y))
regroup (Ok x) f g = refl
regroup (Err e) f g = refl

-- ---- Label

abbrev pair : {P Q : Type 0} → P → Q → P × Q
pair p q = (p, q)

label_two : IsTwo label_step pair (λ _ c. text c) (λ _ c. text c)
unfolding label_step
label_two = record {
  first = λ p q f e. rw e refl;
  second = λ p q f e. rw e refl;
  other = λ p q f n1 n2. rw (ne_eqb f.number 1 n1, ne_eqb f.number 2 n2) refl;
}

pub label-takes : (bytes : List ℕ) (l : Label) → read_label bytes ≡ Ok l → SpellsLabel bytes l
label-takes bytes l e =
    let t = read-takes kinds.Label label_step ([], []) bytes l e in
    let r = two_take label_step pair (λ _ c. text c) (λ _ c. text c) label_two t.fields [] [] l t.folded in
    let one = strings_take (contents 1 t.fields) [] r.p-end r.ones-fold in
    let two = strings_take (contents 2 t.fields) [] r.q-end r.twos-fold in
    let made : SpellsLabel bytes (r.p-end, r.q-end) = record { fields = t.fields; are = record { spelled = t.spelled; wires = t.wires }; texts = (one.0, two.0); name = one.1; value = two.1 } in
    subst (λ (y : Label). SpellsLabel bytes y) (sym r.is) made

pub label-again : (bytes : List ℕ) (l : Label) → SpellsLabel bytes l → read_label bytes ≡ Ok l
label-again bytes l h =
    let one = strings_again (contents 1 h.fields) [] l.0 h.texts.0 h.name in
    let two = strings_again (contents 2 h.fields) [] l.1 h.texts.1 h.value in
    read-again kinds.Label label_step ([], []) bytes h.fields h.are ∙ two_again label_step pair (λ _ c. text c) (λ _ c. text c) label_two h.fields [] l.0 [] l.1 one two

-- ---- Sample

sample_two : IsTwo sample_step pair (λ _ c. word c) (λ _ c. timestamp c)
unfolding sample_step
sample_two = record {
  first = λ p q f e. rw e refl;
  second = λ p q f e. rw e refl;
  other = λ p q f n1 n2. rw (ne_eqb f.number 1 n1, ne_eqb f.number 2 n2) refl;
}

zero_time : pos 0 ≡ cast_signed w64 0
zero_time = refl

pub sample-takes : (bytes : List ℕ) (s : Sample) → read_sample bytes ≡ Ok s → SpellsSample bytes s
sample-takes bytes s e =
    let t = read-takes kinds.Sample sample_step (0, pos 0) bytes s e in
    let r = two_take sample_step pair (λ _ c. word c) (λ _ c. timestamp c) sample_two t.fields 0 (pos 0) s t.folded in
    let one = words_take (contents 1 t.fields) 0 r.p-end r.ones-fold in
    let two = times_take (contents 2 t.fields) 0 (pos 0) r.q-end zero_time r.twos-fold in
    let made : SpellsSample bytes (r.p-end, r.q-end) = record { fields = t.fields; are = record { spelled = t.spelled; wires = t.wires }; word = one; timestamp = two } in
    subst (λ (y : Sample). SpellsSample bytes y) (sym r.is) made

pub sample-again : (bytes : List ℕ) (s : Sample) → SpellsSample bytes s → read_sample bytes ≡ Ok s
sample-again bytes s h =
    let one = words_again (contents 1 h.fields) 0 s.0 (contents-wires kinds.Sample 1 1 h.fields refl h.are.wires) h.word in
    let two = times_again (contents 2 h.fields) 0 h.timestamp.0 (pos 0) s.1 zero_time (contents-wires kinds.Sample 2 0 h.fields refl h.are.wires) h.timestamp.1 h.timestamp.2 in
    read-again kinds.Sample sample_step (0, pos 0) bytes h.fields h.are ∙ two_again sample_step pair (λ _ c. word c) (λ _ c. timestamp c) sample_two h.fields 0 s.0 (pos 0) s.1 one two

-- ---- TimeSeries

abbrev series_with : List Label → List Sample → TimeSeries
series_with ls ss = record { labels = ls; samples = ss }

series_two : IsTwo series_step series_with (adds read_label) (adds read_sample)
unfolding series_step
series_two = record {
  first = λ p q f e. rw e (regroup (nested read_label f.content) (λ l. p ++ l ∷ []) (λ ls. series_with ls q));
  second = λ p q f e. rw e (regroup (nested read_sample f.content) (λ s. q ++ s ∷ []) (λ ss. series_with p ss));
  other = λ p q f n1 n2. rw (ne_eqb f.number 1 n1, ne_eqb f.number 2 n2) refl;
}

pub series-takes : (bytes : List ℕ) (s : TimeSeries) → read_series bytes ≡ Ok s → SpellsSeries bytes s
series-takes bytes s e =
    let t = read-takes kinds.TimeSeries series_step (series_with [] []) bytes s e in
    let r = two_take series_step series_with (adds read_label) (adds read_sample) series_two t.fields [] [] s t.folded in
    let one = nested_take read_label SpellsLabel label-takes (contents 1 t.fields) [] r.p-end r.ones-fold in
    let two = nested_take read_sample SpellsSample sample-takes (contents 2 t.fields) [] r.q-end r.twos-fold in
    let ls = subst (λ (y : List Label). EachSpells SpellsLabel (contents 1 t.fields) y) (sym one.is) one.each in
    let ss = subst (λ (y : List Sample). EachSpells SpellsSample (contents 2 t.fields) y) (sym two.is) two.each in
    let made : SpellsSeries bytes (series_with r.p-end r.q-end) = record { fields = t.fields; are = record { spelled = t.spelled; wires = t.wires }; labels = ls; samples = ss } in
    subst (λ (y : TimeSeries). SpellsSeries bytes y) (sym r.is) made

pub series-again : (bytes : List ℕ) (s : TimeSeries) → SpellsSeries bytes s → read_series bytes ≡ Ok s
series-again bytes s h =
    let one = nested_again read_label SpellsLabel label-again (contents 1 h.fields) [] s.labels h.labels in
    let two = nested_again read_sample SpellsSample sample-again (contents 2 h.fields) [] s.samples h.samples in
    read-again kinds.TimeSeries series_step (series_with [] []) bytes h.fields h.are ∙ two_again series_step series_with (adds read_label) (adds read_sample) series_two h.fields [] s.labels [] s.samples one two

-- ---- WriteRequest

abbrev only : WriteRequest → Unit {0} → WriteRequest
only m u = m

abbrev ignored : Unit {0} → Content → Result (Unit {0}) WireFault
ignored u c = Ok tt

request_two : IsTwo request_step only (adds read_series) ignored
unfolding request_step
request_two = record {
  first = λ p q f e. rw e (regroup (nested read_series f.content) (λ s. p ++ s ∷ []) (λ m. m));
  second = λ p q f e. rw e refl;
  other = λ p q f n1 n2. rw (ne_eqb f.number 1 n1) refl;
}

all_ignored : (cs : List Content) → fold_contents ignored tt cs ≡ Ok tt
all_ignored [] = refl
all_ignored (c ∷ cs) = all_ignored cs

pub request-takes : (bytes : List ℕ) (m : WriteRequest) → read bytes ≡ Ok m → Spells bytes m
request-takes bytes m e =
    let t = read-takes kinds.WriteRequest request_step [] bytes m e in
    let r = two_take request_step only (adds read_series) ignored request_two t.fields [] tt m t.folded in
    let one = nested_take read_series SpellsSeries series-takes (contents 1 t.fields) [] r.p-end r.ones-fold in
    let ss = subst (λ (y : WriteRequest). EachSpells SpellsSeries (contents 1 t.fields) y) (sym (r.is ∙ one.is)) one.each in
    record { fields = t.fields; are = record { spelled = t.spelled; wires = t.wires }; series = ss }

pub request-again : (bytes : List ℕ) (m : WriteRequest) → Spells bytes m → read bytes ≡ Ok m
request-again bytes m h =
    let one = nested_again read_series SpellsSeries series-again (contents 1 h.fields) [] m h.series in
    read-again kinds.WriteRequest request_step [] bytes h.fields h.are ∙ two_again request_step only (adds read_series) ignored request_two h.fields [] m tt tt one (all_ignored (contents 2 h.fields))

pub same_message : (bytes : List ℕ) (one other : WriteRequest) → Spells bytes one → Spells bytes other → one ≡ other
same_message bytes one other h k = ok_is one other (sym (request-again bytes one h) ∙ request-again bytes other k)

-- what was read of a series stays, and samples come after it
pub samples-longer : (bytes : List ℕ) (before whole : TimeSeries) → series_on before bytes ≡ Ok whole → (more : List Sample) × (whole.samples ≡ before.samples ++ more)
samples-longer bytes before whole e =
    let t = read-takes kinds.TimeSeries series_step before bytes whole e in
    let r = two_take series_step series_with (adds read_label) (adds read_sample) series_two t.fields before.labels before.samples whole t.folded in
    let two = nested_take read_sample SpellsSample sample-takes (contents 2 t.fields) before.samples r.q-end r.twos-fold in
    (two.items, ap (λ (s : TimeSeries). s.samples) r.is ∙ two.is)

-- and so do its labels
pub labels-longer : (bytes : List ℕ) (before whole : TimeSeries) → series_on before bytes ≡ Ok whole → (more : List Label) × (whole.labels ≡ before.labels ++ more)
labels-longer bytes before whole e =
    let t = read-takes kinds.TimeSeries series_step before bytes whole e in
    let r = two_take series_step series_with (adds read_label) (adds read_sample) series_two t.fields before.labels before.samples whole t.folded in
    let one = nested_take read_label SpellsLabel label-takes (contents 1 t.fields) before.labels r.p-end r.ones-fold in
    (one.items, ap (λ (s : TimeSeries). s.labels) r.is ∙ one.is)
