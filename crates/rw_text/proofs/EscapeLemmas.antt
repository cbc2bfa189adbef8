-- Texts in quotes differ if their contents do.
use Rattle.std.proofs.Common.{true, ◌≡◌, ◌<◌, ◌≤◌, ◌==◌, ℕ, List, [], ◌∷◌, ◌++◌, length, Option, Some, None, if◌then◌else◌, ne_eqb, flat_map, sym, ◌∙◌, ap, arith, refl, inl, inr, append_assoc}
use Rattle.std.proofs.lemmas.Bool.{and_parts, cases_eq, true≢false}
use Rattle.std.specs.List.{list_all}
use Rattle.std.proofs.lemmas.List.{length-append, append-nil}
use Rattle.rw_text.specs.LabelText.{escaped, is_plain, quoted}

-- the byte after a backslash, and what follows it
abbrev pub behind_backslash : List ℕ → Option (ℕ × List ℕ)
behind_backslash [] = None
behind_backslash (c ∷ cs) = if c == 110 then Some (10, cs) else if c == 92 then Some (92, cs) else if c == 34 then Some (34, cs) else None

-- the byte with which the inside of quotes begins, and what follows it
abbrev pub byte_at : List ℕ → Option (ℕ × List ℕ)
byte_at [] = None
byte_at (c ∷ cs) = if c == 92 then behind_backslash cs else if c == 34 then None else if c == 10 then None else Some (c, cs)

pub byte_at-escaped : (b : ℕ) (rest : List ℕ) → byte_at (escaped b ++ rest) ≡ Some (b, rest)
byte_at-escaped b rest = elim (cases_eq b 92) [
  | inl e ↦ rw e refl
  | inr n92 ↦ elim (cases_eq b 34) [
    | inl e ↦ rw e refl
    | inr n34 ↦ elim (cases_eq b 10) [
      | inl e ↦ rw e refl
      | inr n10 ↦ rw (ne_eqb b 92 n92, ne_eqb b 34 n34, ne_eqb b 10 n10) (rw (ne_eqb b 92 n92, ne_eqb b 34 n34, ne_eqb b 10 n10) refl)
    ]
  ]
]

-- nothing but these
pub not_escaped : (text : List ℕ) → byte_at text ≡ None → (b : ℕ) (rest : List ℕ) → text ≡ escaped b ++ rest → ⊥
not_escaped text none b rest e = let s = byte_at-escaped b rest in let t : byte_at text ≡ Some (b, rest) = ap byte_at e ∙ s in cc (sym none ∙ t)

none_some : (p : ℕ × List ℕ) → Some p ≡ None → ⊥
none_some p e = cc

same_some : (p q : ℕ × List ℕ) → Some p ≡ Some q → p ≡ q
same_some p q e = cc

pub escaped_unique : (b c : ℕ) (rest more : List ℕ) → escaped b ++ rest ≡ escaped c ++ more → (b ≡ c) × (rest ≡ more)
escaped_unique b c rest more e =
    let p : ℕ × List ℕ = (b, rest) in
    let q : ℕ × List ℕ = (c, more) in
    let same : p ≡ q = same_some p q (sym (byte_at-escaped b rest) ∙ ap byte_at e ∙ byte_at-escaped c more) in
    (ap (λ (x : ℕ × List ℕ). x.0) same, ap (λ (x : ℕ × List ℕ). x.1) same)

pub not_a_quote : (b : ℕ) (rest more : List ℕ) → escaped b ++ rest ≡ 34 ∷ more → ⊥
not_a_quote b rest more e =
    none_some (b, rest) (sym (byte_at-escaped b rest) ∙ ap byte_at e)

-- the text inside of the quotes, up to the closing one, and then what follows
abbrev pub inside : List ℕ → List ℕ → List ℕ
inside value rest = flat_map escaped value ++ 34 ∷ rest

pub quoted-append : (value rest : List ℕ) → quoted value ++ rest ≡ 34 ∷ inside value rest
unfolding quoted
quoted-append value rest = ap (λ (t : List ℕ). 34 ∷ t) (append_assoc (flat_map escaped value) (34 ∷ []) rest)

pub inside-cons : (b : ℕ) (value rest : List ℕ) → inside (b ∷ value) rest ≡ escaped b ++ inside value rest
inside-cons b value rest = append_assoc (escaped b) (flat_map escaped value) (34 ∷ rest)

-- `got` was read of a text in quotes, and `rest` is left
pub record Inside (text got rest : List ℕ) : Type 0 where
  pub sound : (value more : List ℕ) → rest ≡ inside value more → text ≡ quoted (got ++ value) ++ more
  pub whole : (value more : List ℕ) → text ≡ quoted value ++ more → (w : List ℕ) × (value ≡ got ++ w) × (rest ≡ inside w more)

pub inside_begins : (text rest : List ℕ) → text ≡ 34 ∷ rest → Inside text [] rest
inside_begins text rest e = record {
  sound = λ value more f. e ∙ ap (λ (t : List ℕ). 34 ∷ t) f ∙ sym (quoted-append value more);
  whole = λ value more f. let g : 34 ∷ rest ≡ 34 ∷ inside value more = sym e ∙ f ∙ quoted-append value more in (value, refl, cc);
}

whole_more : (b : ℕ) (got more value after w : List ℕ) → value ≡ got ++ w → escaped b ++ more ≡ inside w after
    → (v : List ℕ) × (value ≡ (got ++ b ∷ []) ++ v) × (more ≡ inside v after)
whole_more b got more value after [] e f = absurd (not_a_quote b more after f)
whole_more b got more value after (c ∷ w) e f =
    let p = escaped_unique b c more (inside w after) (f ∙ inside-cons c w after) in
    let g : b ∷ w ≡ c ∷ w = ap (λ (x : ℕ). x ∷ w) p.0 in
    (w, e ∙ ap (λ (t : List ℕ). got ++ t) (sym g) ∙ sym (append_assoc got (b ∷ []) w), p.1)

pub inside_more : (text got rest more : List ℕ) (b : ℕ) → Inside text got rest → rest ≡ escaped b ++ more → Inside text (got ++ b ∷ []) more
inside_more text got rest more b i e = record {
  sound = λ value after f.
      i.sound (b ∷ value) after (e ∙ ap (λ (t : List ℕ). escaped b ++ t) f ∙ sym (inside-cons b value after))
      ∙ ap (λ (t : List ℕ). quoted t ++ after) (sym (append_assoc got (b ∷ []) value));
  whole = λ value after f. let w = i.whole value after f in whole_more b got more value after w.0 w.1 (sym e ∙ w.2);
}

pub inside_ends : (text got rest more : List ℕ) → Inside text got rest → rest ≡ 34 ∷ more → text ≡ quoted got ++ more
inside_ends text got rest more i e = i.sound [] more e ∙ ap (λ (t : List ℕ). quoted t ++ more) (append-nil got)

neither : (rest w after : List ℕ) → rest ≡ inside w after → ((more : List ℕ) → rest ≡ 34 ∷ more → ⊥) → ((b : ℕ) (more : List ℕ) → rest ≡ escaped b ++ more → ⊥) → ⊥
neither rest [] after e q n = q after e
neither rest (b ∷ w) after e q n = n b (inside w after) (e ∙ inside-cons b w after)

pub inside_fails : (text got rest : List ℕ) → Inside text got rest → ((more : List ℕ) → rest ≡ 34 ∷ more → ⊥) → ((b : ℕ) (more : List ℕ) → rest ≡ escaped b ++ more → ⊥)
    → (value after : List ℕ) → text ≡ quoted value ++ after → ⊥
inside_fails text got rest i q n value after e = let w = i.whole value after e in neither rest w.0 after w.2 q n

pub not_quoted : (text : List ℕ) → ((more : List ℕ) → text ≡ 34 ∷ more → ⊥) → (value after : List ℕ) → text ≡ quoted value ++ after → ⊥
not_quoted text n value after e = n (inside value after) (e ∙ quoted-append value after)

-- each byte takes at least one
pub escaped_some : (b : ℕ) → 1 ≤ length (escaped b)
escaped_some b = elim (cases_eq b 92) [
  | inl e ↦ rw e (omega arith)
  | inr n92 ↦ elim (cases_eq b 34) [
    | inl e ↦ rw e (omega arith)
    | inr n34 ↦ elim (cases_eq b 10) [
      | inl e ↦ rw e (omega arith)
      | inr n10 ↦ rw (ne_eqb b 92 n92, ne_eqb b 34 n34, ne_eqb b 10 n10) (omega arith)
    ]
  ]
]

pub escaped_shorter : (b : ℕ) (rest more : List ℕ) → rest ≡ escaped b ++ more → length more < length rest
escaped_shorter b rest more e = rw e (omega (arith, length-append (escaped b) more, escaped_some b))

inside_unique : (value other rest more : List ℕ) → inside value rest ≡ inside other more → (value ≡ other) × (rest ≡ more)
inside_unique [] [] rest more e = (refl, cc)
inside_unique [] (b ∷ other) rest more e = absurd (not_a_quote b (inside other more) rest (sym (inside-cons b other more) ∙ sym e))
inside_unique (a ∷ value) [] rest more e = absurd (not_a_quote a (inside value rest) more (sym (inside-cons a value rest) ∙ e))
inside_unique (a ∷ value) (b ∷ other) rest more e =
    let p = escaped_unique a b (inside value rest) (inside other more) (sym (inside-cons a value rest) ∙ e ∙ inside-cons b other more) in
    let q = inside_unique value other rest more p.1 in
    (cc (p.0, q.0), q.1)

-- what is between quotes determines where it ends
pub quoted_unique : (value other rest more : List ℕ) → quoted value ++ rest ≡ quoted other ++ more → (value ≡ other) × (rest ≡ more)
quoted_unique value other rest more e =
    let f : 34 ∷ inside value rest ≡ 34 ∷ inside other more = sym (quoted-append value rest) ∙ e ∙ quoted-append other more in
    inside_unique value other rest more cc

-- ---- texts without a backslash

pub escaped-plain : (b : ℕ) → is_plain b ≡ true → escaped b ≡ b ∷ []
escaped-plain b plain = elim (cases_eq b 92) [
  | inl e ↦ absurd (true≢false (sym plain ∙ rw e refl))
  | inr n92 ↦ elim (cases_eq b 34) [
    | inl e ↦ absurd (true≢false (sym plain ∙ rw e refl))
    | inr n34 ↦ elim (cases_eq b 10) [
      | inl e ↦ absurd (true≢false (sym plain ∙ rw e refl))
      | inr n10 ↦ rw (ne_eqb b 92 n92, ne_eqb b 34 n34, ne_eqb b 10 n10) refl
    ]
  ]
]

-- they are written in quotes as they are
pub flat_map-escaped-plain : (text : List ℕ) → list_all is_plain text ≡ true → flat_map escaped text ≡ text
flat_map-escaped-plain [] plain = refl
flat_map-escaped-plain (b ∷ bs) plain =
    let both = and_parts (is_plain b) (list_all is_plain bs) plain in
    ap (λ t. t ++ flat_map escaped bs) (escaped-plain b both.0) ∙ ap (λ t. b ∷ t) (flat_map-escaped-plain bs both.1)
