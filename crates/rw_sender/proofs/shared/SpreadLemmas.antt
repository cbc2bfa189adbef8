-- Samples that are placed are spread.
use Rattle.std.proofs.Common.{◌≡◌, ◌⊎◌, inl, inr, ℕ, ℤ, zero, suc, ◌+◌, ◌<◌, ◌≤◌, Bool, true, false, List, [], ◌∷◌, ◌++◌, length, Some, None, cond, refl, sym, ap, ◌∙◌, subst, length-append, zero-add, arith}
use Rattle.std.specs.Prelude.{◌==◌, filter, slice_get, ⊤}
use Rattle.std.specs.List.{AllByRecursion, Contains}
use Rattle.std.proofs.lemmas.List.Elements.{Contains-append_cases, Contains-append_left, Contains-append_right}
use Rattle.std.proofs.lemmas.Bool.{eq-eqb, eqb-true}
use Rattle.std.proofs.lemmas.Option.{same_Some}
use Rattle.rw_types.specs.Rising.{Rises}
use Rattle.rw_types.proofs.shared.AllLemmas.{AllByRecursion-weaker}
use Rattle.rw_types.proofs.shared.RisingLemmas.{Rises-across, Rises-filter, Rises-left, Rises-right}
use Rattle.rw_types.specs.declared.entry.Entry.{Entry}
use Rattle.rw_types.specs.declared.entry.Entry.TheVariants as entry
use Rattle.rw_types.specs.Gathering.{gather_from}
use Rattle.rw_relabel.specs.declared.choice.Choice.{Choice}
use Rattle.rw_fleet.specs.ShardHistories.{ShardHistory}
use Rattle.rw_series_cache.specs.Fates.{Fate, Drops, Filters, Sends, fate}
use Rattle.rw_sender.specs.Logs.{Sent, sent_by_fate, sent_of, sent}
use Rattle.rw_sender.specs.Placement.{samples_put, shard_of, IsDealt, Places, joined_epochs, ArePlaced}
use Rattle.rw_sender.specs.Spread.{IsSentBefore, IsShard, IsSpread}
use Rattle.rw_sender.proofs.shared.PlacementLemmas.{get_some}

pub none_below : (k : ℕ) → k < 0 → ⊥
none_below k lt = omega arith

no_one : (x : Sent) → Contains [] x → ⊥
no_one x h = none_below h.0 h.1

one_later : (x y : Sent) (ys : List Sent) → Contains ys x → Contains (y ∷ ys) x
one_later x y ys h = Contains-append_right (y ∷ []) ys x h

one_cond : (b : Bool) (x y : Sent) (ys : List Sent) → Contains (cond b (y ∷ ys) ys) x → ((b ≡ true) × (y ≡ x)) ⊎ Contains ys x
one_cond true x y ys (zero, lt, e) = inl (refl, e)
one_cond true x y ys (suc k, lt, e) = inr (k, omega arith, e)
one_cond false x y ys h = inr h

one_filter : (p : Sent → Bool) (x : Sent) (xs : List Sent) → Contains (filter p xs) x → Contains xs x × (p x ≡ true)
one_filter p x [] h = absurd (no_one x h)
one_filter p x (y ∷ ys) h = elim (one_cond (p y) x y (filter p ys) h) [
  | inl a ↦ ((0, omega arith, a.1), ap p (sym a.1) ∙ a.0)
  | inr b ↦ (one_later x y ys (one_filter p x ys b).0, (one_filter p x ys b).1)
]

one_kept : (b : Bool) (x y : Sent) (ys : List Sent) → Contains ys x → Contains (cond b (y ∷ ys) ys) x
one_kept true x y ys h = one_later x y ys h
one_kept false x y ys h = h

one_passes : (p : Sent → Bool) (x : Sent) (xs : List Sent) → Contains xs x → p x ≡ true → Contains (filter p xs) x
one_passes p x [] h is = absurd (no_one x h)
one_passes p x (y ∷ ys) (zero, lt, e) is = subst (λ b. Contains (cond b (y ∷ filter p ys) (filter p ys)) x) (sym (ap p e ∙ is)) (0, omega arith, e)
one_passes p x (y ∷ ys) (suc k, lt, e) is = one_kept (p y) x y (filter p ys) (one_passes p x ys (k, omega arith, e) is)

each_one_of : (P : Sent → Type 0) (x : Sent) (xs : List Sent) → AllByRecursion P xs → Contains xs x → P x
each_one_of P x [] all h = absurd (no_one x h)
each_one_of P x (y ∷ ys) all (zero, lt, e) = subst P e all.0
each_one_of P x (y ∷ ys) all (suc k, lt, e) = each_one_of P x ys all.1 (k, omega arith, e)

rise_across : (xs ys : List Sent) (x y : Sent) → Rises IsSentBefore (xs ++ ys) → Contains xs x → Contains ys y → x.pos < y.pos
rise_across xs ys x y r h g =
    each_one_of (IsSentBefore x) y ys (each_one_of (λ z. AllByRecursion (IsSentBefore z) ys) x xs (Rises-across IsSentBefore xs ys r) h) g

-- two samples at one position are one
rise_same : (xs : List Sent) (x y : Sent) → Rises IsSentBefore xs → Contains xs x → Contains xs y → x.pos ≡ y.pos → x ≡ y
rise_same [] x y r h g e = absurd (no_one x h)
rise_same (z ∷ zs) x y r (zero, lt, a) (zero, below, b) e = sym a ∙ b
rise_same (z ∷ zs) x y r (zero, lt, a) (suc k, below, g) e = let up : z.pos < y.pos = each_one_of (IsSentBefore z) y zs r.0 (k, omega arith, g) in let is : z.pos ≡ x.pos = ap (λ (w : Sent). w.pos) a in absurd (omega arith)
rise_same (z ∷ zs) x y r (suc k, lt, h) (zero, below, b) e = let up : z.pos < x.pos = each_one_of (IsSentBefore z) x zs r.0 (k, omega arith, h) in let is : z.pos ≡ y.pos = ap (λ (w : Sent). w.pos) b in absurd (omega arith)
rise_same (z ∷ zs) x y r (suc k, lt, h) (suc m, below, g) e = rise_same zs x y r.1 (k, omega arith, h) (m, omega arith, g) e

-- what the shards of one epoch were put, out of all
record HasPart (e : ℕ) (lanes : List ShardHistory) (samples : List Sent) : Type 0 where
  number : ℕ
  number_is : number ≡ e
  part : List Sent
  dealt : IsDealt number lanes part
  among : (x : Sent) → Contains part x → Contains samples x
  rises : Rises IsSentBefore samples → Rises IsSentBefore part

part_of : (b e : ℕ) (es : List (List ShardHistory)) (lanes : List ShardHistory) (samples : List Sent) → Places b es samples → slice_get es e ≡ Some lanes → HasPart (b + e) lanes samples
part_of b e [] lanes samples h at = absurd (let at' : None ≡ Some lanes = at in cc)
part_of b zero (x ∷ xs) lanes samples h at = record {
  number = b;
  number_is = omega arith;
  part = h.0;
  dealt = subst (λ ls. IsDealt b ls h.0) (same_Some x lanes at) h.3;
  among = λ y one. subst (λ zs. Contains zs y) (sym h.2) (Contains-append_left h.0 h.1 y one);
  rises = λ r. Rises-left IsSentBefore h.0 h.1 (subst (Rises IsSentBefore) h.2 r);
}
part_of b (suc e) (x ∷ xs) lanes samples h at =
    let p = part_of (suc b) e xs lanes h.1 h.4 at in
    record {
      number = p.number;
      number_is = let is = p.number_is in omega arith;
      part = p.part;
      dealt = p.dealt;
      among = λ y one. subst (λ zs. Contains zs y) (sym h.2) (Contains-append_right h.0 h.1 y (p.among y one));
      rises = λ r. p.rises (Rises-right IsSentBefore h.0 h.1 (subst (Rises IsSentBefore) h.2 r));
    }

-- a sample of an epoch is in the shard of its series
dealt_one : (n : ℕ) (lanes : List ShardHistory) (part : List Sent) (x : Sent) → IsDealt n lanes part → Contains part x → (k : ℕ) × (l : ShardHistory) × (slice_get lanes k ≡ Some l) × Contains (samples_put l) x
dealt_one n [] part x d one = absurd (no_one x (subst (λ zs. Contains zs x) (d.none refl) one))
dealt_one n (a ∷ ls) part x d one =
    let k = shard_of (length (a ∷ ls)) x.series in
    let at = get_some (a ∷ ls) k (omega arith) in
    (k, at.0, at.1, subst (λ zs. Contains zs x) (sym (d.each k at.0 at.1).2) (one_passes (λ s. shard_of (length (a ∷ ls)) s.series == k) x part one (eq-eqb k k refl)))

each_one : (b : ℕ) (es : List (List ShardHistory)) (samples : List Sent) (x : Sent) → Places b es samples → Contains samples x → (e : ℕ) × (k : ℕ) × (lanes : List ShardHistory) × (l : ShardHistory) × IsShard es e k lanes l × Contains (samples_put l) x
each_one b [] samples x h one = absurd (no_one x (subst (λ zs. Contains zs x) h one))
each_one b (y ∷ ys) samples x h one = elim (Contains-append_cases h.0 h.1 x (subst (λ zs. Contains zs x) h.2 one)) [
  | inl a ↦ (let d = dealt_one b y h.0 x h.3 a in (0, d.0, y, d.1, (refl, d.2), d.3))
  | inr c ↦ (let r = each_one (suc b) ys h.1 x h.4 c in (suc r.0, r.1, r.2, r.3, r.4, r.5))
]

-- what is in a shard is of its epoch, and of its series
shard_one : (n k : ℕ) (lanes : List ShardHistory) (part : List Sent) (l : ShardHistory) (x : Sent) → IsDealt n lanes part → slice_get lanes k ≡ Some l → Contains (samples_put l) x → Contains part x × (k ≡ shard_of (length lanes) x.series)
shard_one n k lanes part l x d at one =
    let f = one_filter (λ s. shard_of (length lanes) s.series == k) x part (subst (λ zs. Contains zs x) (d.each k l at).2 one) in
    (f.0, sym (eqb-true (shard_of (length lanes) x.series) k f.1))

later_one : (b e f j k : ℕ) (es : List (List ShardHistory)) (samples : List Sent) (lanes others : List ShardHistory) (l m : ShardHistory) (x y : Sent) → Places b es samples → Rises IsSentBefore samples
    → IsShard es e j lanes l → IsShard es f k others m → Contains (samples_put l) x → Contains (samples_put m) y → e < f → x.pos < y.pos
later_one b e f j k [] samples lanes others l m x y h r s t one two lt = absurd (let at : None ≡ Some lanes = s.0 in cc)
later_one b e zero j k (z ∷ zs) samples lanes others l m x y h r s t one two lt = absurd (omega arith)
later_one b zero (suc f) j k (z ∷ zs) samples lanes others l m x y h r s t one two lt =
    let d = subst (λ ls. IsDealt b ls h.0) (same_Some z lanes s.0) h.3 in
    let p = part_of (suc b) f zs others h.1 h.4 t.0 in
    rise_across h.0 h.1 x y (subst (Rises IsSentBefore) h.2 r) (shard_one b j lanes h.0 l x d s.1 one).0 (p.among y (shard_one p.number k others p.part m y p.dealt t.1 two).0)
later_one b (suc e) (suc f) j k (z ∷ zs) samples lanes others l m x y h r s t one two lt =
    later_one (suc b) e f j k zs h.1 lanes others l m x y h.4 (Rises-right IsSentBefore h.0 h.1 (subst (Rises IsSentBefore) h.2 r)) s t one two (omega arith)

pub spread_of : (es : List (List ShardHistory)) (samples : List Sent) → Places 0 es samples → Rises IsSentBefore samples → IsSpread es samples
spread_of es samples h r = record {
  numbered = λ e k lanes l s. let p = part_of 0 e es lanes samples h s.0 in let q = p.dealt.each k l s.1 in (q.0 ∙ p.number_is ∙ zero-add e, q.1);
  rises = λ e k lanes l s. let p = part_of 0 e es lanes samples h s.0 in subst (Rises IsSentBefore) (sym (p.dealt.each k l s.1).2) (Rises-filter IsSentBefore (λ x. shard_of (length lanes) x.series == k) p.part (p.rises r));
  each = λ x one. each_one 0 es samples x h one;
  no_other = λ e k lanes l x s one. let p = part_of 0 e es lanes samples h s.0 in let q = shard_one p.number k lanes p.part l x p.dealt s.1 one in (p.among x q.0, q.1);
  once = λ e j k lanes l m x y s t one two same.
      let p = part_of 0 e es lanes samples h s.0 in
      let a = shard_one p.number j lanes p.part l x p.dealt s.1 one in
      let c = shard_one p.number k lanes p.part m y p.dealt t.1 two in
      a.1 ∙ ap (λ (z : Sent). shard_of (length lanes) z.series) (rise_same p.part x y (p.rises r) a.0 c.0 same) ∙ sym c.1;
  later = λ e f j k lanes others l m x y s t one two lt. later_one 0 e f j k es samples lanes others l m x y h r s t one two lt;
}

-- from a position on
abbrev AllFrom : ℕ → List Sent → Type 0
AllFrom n xs = AllByRecursion (λ (x : Sent). n ≤ x.pos) xs

from_less : (n m : ℕ) (xs : List Sent) → n ≤ m → AllFrom m xs → AllFrom n xs
from_less n m xs le h = AllByRecursion-weaker (λ (x : Sent). m ≤ x.pos) (λ (x : Sent). n ≤ x.pos) (λ x b. omega arith) xs h

from_above : (n m : ℕ) (xs : List Sent) → n < m → AllFrom m xs → AllByRecursion (λ (x : Sent). n < x.pos) xs
from_above n m xs lt h = AllByRecursion-weaker (λ (x : Sent). m ≤ x.pos) (λ (x : Sent). n < x.pos) (λ x b. omega arith) xs h

-- one sample at most, at this position, and later ones
abbrev IsAt : ℕ → List Sent → Type 0
IsAt n [] = ⊤
IsAt n (x ∷ []) = x.pos ≡ n
IsAt n (x ∷ y ∷ xs) = ⊥

at_rise : (n m : ℕ) (xs ys : List Sent) → IsAt n xs → m ≡ n + 1 → AllFrom m ys → Rises IsSentBefore ys → Rises IsSentBefore (xs ++ ys) × AllFrom n (xs ++ ys)
at_rise n m [] ys at up h r = (r, from_less n m ys (omega arith) h)
at_rise n m (x ∷ []) ys at up h r = ((from_above x.pos m ys (omega arith) h, r), (omega arith, from_less n m ys (omega arith) h))
at_rise n m (x ∷ y ∷ xs) ys at up h r = absurd at

at_fate : (choice : Choice) (before : List Entry) (t : ℤ) (word : ℕ) (f : Fate) → IsAt (length before) (sent_by_fate choice before t word f)
at_fate choice before t word (Sends l) = refl
at_fate choice before t word (Drops reason) = tt
at_fate choice before t word Filters = tt

at_of : (choice : Choice) (before : List Entry) (e : Entry) → IsAt (length before) (sent_of choice before e)
at_of choice before (entry.Def reference labels) = tt
at_of choice before (entry.Sample reference t word) = at_fate choice before t word (fate choice before reference t)

from_rise : (choice : Choice) (before es : List Entry) → Rises IsSentBefore (gather_from (sent_of choice) before es) × AllFrom (length before) (gather_from (sent_of choice) before es)
from_rise choice before [] = (tt, tt)
from_rise choice before (e ∷ es) =
    let r = from_rise choice (before ++ e ∷ []) es in
    at_rise (length before) (length (before ++ e ∷ [])) (sent_of choice before e) (gather_from (sent_of choice) (before ++ e ∷ []) es) (at_of choice before e) (length-append before (e ∷ [])) r.1 r.0

pub placed_spread : (lanes : List ShardHistory) (choice : Choice) (es : List Entry) → ArePlaced lanes (sent choice es) → (epochs : List (List ShardHistory)) × (lanes ≡ joined_epochs epochs) × IsSpread epochs (sent choice es)
placed_spread lanes choice es h = (h.0, h.1, spread_of h.0 (sent choice es) h.2 (from_rise choice [] es).0)
