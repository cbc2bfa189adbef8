-- Labels with one text are the same.
use Rattle.std.proofs.Common.{◌≡◌, ◌<◌, ◌≤◌, ◌==◌, ℕ, List, [], ◌∷◌, ◌++◌, length, Bool, true, false, All, map, Result, Ok, Err, IfOk, Bor, ne_eqb, sym, ◌∙◌, ap, arith, refl, inl, inr, append_assoc}
use Rattle.std.proofs.Math.ListN.{get_or}
use Rattle.std.specs.List.{join_with_byte, list_all}
use Rattle.std.proofs.lemmas.Bool.{cases_eq, cases_Bool, and_parts, both_ways, false≢true}
use Rattle.std.proofs.lemmas.List.{length-append, append-nil}
use Rattle.std.proofs.lemmas.List.Elements.{All-nil, All-cons}
use Rattle.rw_types.specs.Labels.{Label, Labels, is_metric_name, begins_metric_name, continues_metric_name}
use Rattle.rw_text.specs.LabelText.{quoted, name_text, label_text, labels_text}
use Rattle.rw_text.proofs.EscapeLemmas.{quoted-append, quoted_unique, inside}
use Rattle.rw_text.proofs.shared.SplitLemmas.{split_unique}

-- ---- names

pub tail_same : (xs ys : List ℕ) (x : ℕ) → x ∷ xs ≡ x ∷ ys → xs ≡ ys
tail_same xs ys x e = cc

pub name_text-bare : (name : List ℕ) → is_metric_name name ≡ true → name_text name ≡ name
unfolding name_text
name_text-bare name h = rw h refl

pub name_text-quoted : (name : List ℕ) → is_metric_name name ≡ false → name_text name ≡ quoted name
unfolding name_text
name_text-quoted name h = rw h refl

not_equals : (test : ℕ → Bool) (b : ℕ) → test 61 ≡ false → test b ≡ true → (b == 61) ≡ false
not_equals test b f t = elim (cases_eq b 61) [
  | inl e ↦ absurd (both_ways (test b) (ap test e ∙ f) t)
  | inr n ↦ ne_eqb b 61 n
]

all_continue : (bs : List ℕ) → list_all continues_metric_name bs ≡ true → All (λ b. (b == 61) ≡ false) bs
all_continue [] h = All-nil (λ b. (b == 61) ≡ false)
all_continue (b ∷ bs) h =
    let p = and_parts (continues_metric_name b) (list_all continues_metric_name bs) h in
    All-cons (λ b. (b == 61) ≡ false) b bs (not_equals continues_metric_name b refl p.0) (all_continue bs p.1)

-- no bare name has a `=`
no_equals : (name : List ℕ) → is_metric_name name ≡ true → All (λ b. (b == 61) ≡ false) name
no_equals [] h = absurd (false≢true h)
no_equals (b ∷ bs) h =
    let p = and_parts (begins_metric_name b) (list_all continues_metric_name bs) h in
    All-cons (λ b. (b == 61) ≡ false) b bs (not_equals begins_metric_name b refl p.0) (all_continue bs p.1)

-- no bare name begins with a quote
no_quote : (name rest more : List ℕ) → is_metric_name name ≡ true → name ++ 61 ∷ rest ≡ 34 ∷ more → ⊥
no_quote [] rest more h e = false≢true h
no_quote (b ∷ bs) rest more h e =
    let same : b ≡ 34 = cc in
    let p = and_parts (begins_metric_name b) (list_all continues_metric_name bs) h in
    false≢true (rw same at p.0)

pub other_name : (name other rest more : List ℕ) → All (λ b. (b == 61) ≡ false) other → is_metric_name other ≡ false → is_metric_name name ≡ true
    → other ++ 61 ∷ more ≡ name ++ 61 ∷ rest → ⊥
other_name name other rest more none bad good e =
    let p = split_unique 61 other name more rest none (no_equals name good) e in
    both_ways (is_metric_name other) bad (ap is_metric_name p.0 ∙ good)

pub other_quoted : (name other rest more : List ℕ) → is_metric_name other ≡ true → is_metric_name name ≡ false → quoted other ++ more ≡ quoted name ++ rest → ⊥
other_quoted name other rest more good bad e =
    let p = quoted_unique other name more rest e in
    both_ways (is_metric_name name) bad (sym (ap is_metric_name p.0) ∙ good)

pub no_name_behind_quote : (text more name rest : List ℕ) → text ≡ 34 ∷ more → ((name rest : List ℕ) → is_metric_name name ≡ false → text ≡ quoted name ++ 61 ∷ rest → ⊥)
    → text ≡ name_text name ++ 61 ∷ rest → ⊥
no_name_behind_quote text more name rest begins none e = elim (cases_Bool (is_metric_name name)) [
  | inl good ↦ no_quote name rest more good (ap (λ (t : List ℕ). t ++ 61 ∷ rest) (sym (name_text-bare name good)) ∙ sym e ∙ begins)
  | inr bad ↦ none name rest bad (e ∙ ap (λ (t : List ℕ). t ++ 61 ∷ rest) (name_text-quoted name bad))
]

pub no_name_without_quote : (text name rest : List ℕ) → ((more : List ℕ) → text ≡ 34 ∷ more → ⊥) → ((name rest : List ℕ) → is_metric_name name ≡ true → text ≡ name ++ 61 ∷ rest → ⊥)
    → text ≡ name_text name ++ 61 ∷ rest → ⊥
no_name_without_quote text name rest begins none e = elim (cases_Bool (is_metric_name name)) [
  | inl good ↦ none name rest good (e ∙ ap (λ (t : List ℕ). t ++ 61 ∷ rest) (name_text-bare name good))
  | inr bad ↦ begins (inside name (61 ∷ rest)) (e ∙ ap (λ (t : List ℕ). t ++ 61 ∷ rest) (name_text-quoted name bad) ∙ quoted-append name (61 ∷ rest))
]

pub ok_of_quoted : {E : Type 0} (text name : List ℕ) (r : Result (Bor (List ℕ)) E) → IfOk r (λ rest. (text ≡ quoted name ++ 61 ∷ rest.now) × (is_metric_name name ≡ false))
    → IfOk r (λ rest. text ≡ name_text name ++ 61 ∷ rest.now)
ok_of_quoted text name (Ok rest) h = h.0 ∙ ap (λ (t : List ℕ). t ++ 61 ∷ rest.now) (sym (name_text-quoted name h.1))
ok_of_quoted text name (Err e) h = tt

pub ok_of_bare : {E : Type 0} (text name : List ℕ) (r : Result (Bor (List ℕ)) E) → IfOk r (λ rest. (text ≡ name ++ 61 ∷ rest.now) × (is_metric_name name ≡ true))
    → IfOk r (λ rest. text ≡ name_text name ++ 61 ∷ rest.now)
ok_of_bare text name (Ok rest) h = h.0 ∙ ap (λ (t : List ℕ). t ++ 61 ∷ rest.now) (sym (name_text-bare name h.1))
ok_of_bare text name (Err e) h = tt

name_unique : (name other rest more : List ℕ) → name_text name ++ 61 ∷ rest ≡ name_text other ++ 61 ∷ more → (name ≡ other) × (rest ≡ more)
name_unique name other rest more e = elim (cases_Bool (is_metric_name name)) [
  | inl good ↦
      let f : name ++ 61 ∷ rest ≡ name_text other ++ 61 ∷ more = ap (λ (t : List ℕ). t ++ 61 ∷ rest) (sym (name_text-bare name good)) ∙ e in
      elim (cases_Bool (is_metric_name other)) [
        | inl fine ↦ split_unique 61 name other rest more (no_equals name good) (no_equals other fine) (f ∙ ap (λ (t : List ℕ). t ++ 61 ∷ more) (name_text-bare other fine))
        | inr bad ↦ absurd (no_quote name rest (inside other (61 ∷ more)) good (f ∙ ap (λ (t : List ℕ). t ++ 61 ∷ more) (name_text-quoted other bad) ∙ quoted-append other (61 ∷ more)))
      ]
  | inr bad ↦
      let f : quoted name ++ 61 ∷ rest ≡ name_text other ++ 61 ∷ more = ap (λ (t : List ℕ). t ++ 61 ∷ rest) (sym (name_text-quoted name bad)) ∙ e in
      elim (cases_Bool (is_metric_name other)) [
        | inl fine ↦ absurd (no_quote other more (inside name (61 ∷ rest)) fine (ap (λ (t : List ℕ). t ++ 61 ∷ more) (sym (name_text-bare other fine)) ∙ sym f ∙ quoted-append name (61 ∷ rest)))
        | inr poor ↦
            let p = quoted_unique name other (61 ∷ rest) (61 ∷ more) (f ∙ ap (λ (t : List ℕ). t ++ 61 ∷ more) (name_text-quoted other poor)) in
            (p.0, tail_same rest more 61 p.1)
      ]
]

-- ---- labels

pub label_text-append : (name value rest : List ℕ) → name_text name ++ 61 ∷ (quoted value ++ rest) ≡ label_text (name, value) ++ rest
label_text-append name value rest = sym (append_assoc (name_text name) (61 ∷ quoted value) rest)

pub label_unique : (l m : Label) (rest more : List ℕ) → label_text l ++ rest ≡ label_text m ++ more → (l ≡ m) × (rest ≡ more)
label_unique (a, x) (b, y) rest more e =
    let p = name_unique a b (quoted x ++ rest) (quoted y ++ more) (label_text-append a x rest ∙ e ∙ sym (label_text-append b y more)) in
    let q = quoted_unique x y rest more p.1 in
    let same : ◌≡◌ {A = Label} (a, x) (b, y) = cc (p.0, q.0) in
    (same, q.1)

pub no_label_name : (text : List ℕ) → ((name rest : List ℕ) → text ≡ name_text name ++ 61 ∷ rest → ⊥) → (l : Label) (rest : List ℕ) → text ≡ label_text l ++ rest → ⊥
no_label_name text none (name, value) rest e = none name (quoted value ++ rest) (e ∙ sym (label_text-append name value rest))

pub no_label_value : (text name behind : List ℕ) → text ≡ name_text name ++ 61 ∷ behind → ((value rest : List ℕ) → behind ≡ quoted value ++ rest → ⊥)
    → (l : Label) (rest : List ℕ) → text ≡ label_text l ++ rest → ⊥
no_label_value text name behind found none (other, value) rest e =
    none value rest (name_unique name other behind (quoted value ++ rest) (sym found ∙ e ∙ sym (label_text-append other value rest))).1

pub no_comma : (xs ys : List ℕ) → 44 ∷ xs ≡ 125 ∷ ys → ⊥
no_comma xs ys e = false≢true (sym (ap (λ (t : List ℕ). get_or t 0 0 == 44) e))

-- what follows the first label
abbrev pub more_text : Labels → List ℕ
more_text [] = 125 ∷ []
more_text (l ∷ ls) = 44 ∷ (label_text l ++ more_text ls)

join-more : (l : Label) (ls : Labels) → join_with_byte 44 (map label_text (l ∷ ls)) ++ 125 ∷ [] ≡ label_text l ++ more_text ls
join-more l [] = refl
join-more l (m ∷ ms) =
    append_assoc (label_text l) (44 ∷ join_with_byte 44 (map label_text (m ∷ ms))) (125 ∷ [])
    ∙ ap (λ (t : List ℕ). label_text l ++ 44 ∷ t) (join-more m ms)

pub labels_text-cons : (l : Label) (ls : Labels) → labels_text (l ∷ ls) ≡ 123 ∷ (label_text l ++ more_text ls)
unfolding labels_text
labels_text-cons l ls = ap (λ (t : List ℕ). 123 ∷ t) (join-more l ls)

pub labels_text-nil : labels_text [] ≡ 123 ∷ 125 ∷ []
unfolding labels_text
labels_text-nil = refl

brace_opens : (ls : Labels) → (rest : List ℕ) × (labels_text ls ≡ 123 ∷ rest)
brace_opens [] = (125 ∷ [], labels_text-nil)
brace_opens (l ∷ ls) = (label_text l ++ more_text ls, labels_text-cons l ls)

pub no_brace : (text : List ℕ) → ((rest : List ℕ) → text ≡ 123 ∷ rest → ⊥) → (ls : Labels) → text ≡ labels_text ls → ⊥
no_brace text none ls e = let o = brace_opens ls in none o.0 (e ∙ o.1)

-- `got` was read of labels in braces, at least one, and `rest` is left
pub record Underway (text : List ℕ) (got : Labels) (rest : List ℕ) : Type 0 where
  pub sound : (more : Labels) → rest ≡ more_text more → text ≡ labels_text (got ++ more)
  pub whole : (all : Labels) → text ≡ labels_text all → (more : Labels) × (all ≡ got ++ more) × (rest ≡ more_text more)

first_is : (inner : List ℕ) (l : Label) (rest : List ℕ) → (inner ≡ 125 ∷ [] → ⊥) → inner ≡ label_text l ++ rest → (all : Labels) → 123 ∷ inner ≡ labels_text all
    → (more : Labels) × (all ≡ (l ∷ []) ++ more) × (rest ≡ more_text more)
first_is inner l rest some found [] e = absurd (some (tail_same inner (125 ∷ []) 123 (e ∙ labels_text-nil)))
first_is inner l rest some found (m ∷ ms) e =
    let p = label_unique l m rest (more_text ms) (sym found ∙ tail_same inner (label_text m ++ more_text ms) 123 (e ∙ labels_text-cons m ms)) in
    (ms, ap (λ (x : Label). x ∷ ms) (sym p.0), p.1)

pub underway_begins : (text inner : List ℕ) (l : Label) (rest : List ℕ) → text ≡ 123 ∷ inner → (inner ≡ 125 ∷ [] → ⊥) → inner ≡ label_text l ++ rest → Underway text (l ∷ []) rest
underway_begins text inner l rest e some found = record {
  sound = λ more f. e ∙ ap (λ (t : List ℕ). 123 ∷ t) (found ∙ ap (λ (t : List ℕ). label_text l ++ t) f) ∙ sym (labels_text-cons l more);
  whole = λ all f. first_is inner l rest some found all (sym e ∙ f);
}

next_is : (got : Labels) (rest next : List ℕ) (l : Label) (later : List ℕ) (all more : Labels) → rest ≡ 44 ∷ next → next ≡ label_text l ++ later → all ≡ got ++ more → rest ≡ more_text more
    → (after : Labels) × (all ≡ (got ++ l ∷ []) ++ after) × (later ≡ more_text after)
next_is got rest next l later all [] e found is f = absurd (no_comma next [] (sym e ∙ f))
next_is got rest next l later all (m ∷ ms) e found is f =
    let p = label_unique l m later (more_text ms) (sym found ∙ tail_same next (label_text m ++ more_text ms) 44 (sym e ∙ f)) in
    (ms, is ∙ ap (λ (x : Label). got ++ x ∷ ms) (sym p.0) ∙ sym (append_assoc got (l ∷ []) ms), p.1)

pub underway_more : (text : List ℕ) (got : Labels) (rest next : List ℕ) (l : Label) (later : List ℕ) → Underway text got rest → rest ≡ 44 ∷ next → next ≡ label_text l ++ later
    → Underway text (got ++ l ∷ []) later
underway_more text got rest next l later u e found = record {
  sound = λ more f.
      u.sound (l ∷ more) (e ∙ ap (λ (t : List ℕ). 44 ∷ t) (found ∙ ap (λ (t : List ℕ). label_text l ++ t) f))
      ∙ ap labels_text (sym (append_assoc got (l ∷ []) more));
  whole = λ all f. let w = u.whole all f in next_is got rest next l later all w.0 e found w.1 w.2;
}

pub underway_ends : (text : List ℕ) (got : Labels) (rest : List ℕ) → Underway text got rest → rest ≡ 125 ∷ [] → text ≡ labels_text got
underway_ends text got rest u e = u.sound [] e ∙ ap labels_text (append-nil got)

no_end : (rest : List ℕ) (more : Labels) → (rest ≡ 125 ∷ [] → ⊥) → ((next : List ℕ) → rest ≡ 44 ∷ next → ⊥) → rest ≡ more_text more → ⊥
no_end rest [] brace comma e = brace e
no_end rest (l ∷ ls) brace comma e = comma (label_text l ++ more_text ls) e

pub underway_fails : (text : List ℕ) (got : Labels) (rest : List ℕ) → Underway text got rest → (rest ≡ 125 ∷ [] → ⊥) → ((next : List ℕ) → rest ≡ 44 ∷ next → ⊥)
    → (ls : Labels) → text ≡ labels_text ls → ⊥
underway_fails text got rest u brace comma ls e = let w = u.whole ls e in no_end rest w.0 brace comma w.2

no_next : (rest next : List ℕ) (more : Labels) → rest ≡ 44 ∷ next → ((l : Label) (later : List ℕ) → next ≡ label_text l ++ later → ⊥) → rest ≡ more_text more → ⊥
no_next rest next [] e none f = no_comma next [] (sym e ∙ f)
no_next rest next (l ∷ ls) e none f = none l (more_text ls) (tail_same next (label_text l ++ more_text ls) 44 (sym e ∙ f))

pub underway_stops : (text : List ℕ) (got : Labels) (rest next : List ℕ) → Underway text got rest → rest ≡ 44 ∷ next → ((l : Label) (later : List ℕ) → next ≡ label_text l ++ later → ⊥)
    → (ls : Labels) → text ≡ labels_text ls → ⊥
underway_stops text got rest next u e none ls f = let w = u.whole ls f in no_next rest next w.0 e none w.2

pub first_fails : (text inner : List ℕ) → text ≡ 123 ∷ inner → (inner ≡ 125 ∷ [] → ⊥) → ((l : Label) (later : List ℕ) → inner ≡ label_text l ++ later → ⊥) → (ls : Labels) → text ≡ labels_text ls → ⊥
first_fails text inner e some none [] f = some (tail_same inner (125 ∷ []) 123 (sym e ∙ f ∙ labels_text-nil))
first_fails text inner e some none (l ∷ ls) f = none l (more_text ls) (tail_same inner (label_text l ++ more_text ls) 123 (sym e ∙ f ∙ labels_text-cons l ls))

pub label_some : (name value : List ℕ) → 1 ≤ length (label_text (name, value))
label_some name value = omega (arith, length-append (name_text name) (61 ∷ quoted value))

pub label_shorter : (l : Label) (next later : List ℕ) → next ≡ label_text l ++ later → length later < length next
label_shorter (name, value) next later e = rw e (omega (arith, length-append (label_text (name, value)) later, label_some name value))
