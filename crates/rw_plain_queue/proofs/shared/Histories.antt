-- A history with one item more, and the prefixes of a history.
use Rattle.std.proofs.Common.{◌≡◌, inl, inr, ℕ, ◌<◌, ◌≤◌, ◌^◌, false, true≢false, List, [], ◌∷◌, ◌++◌, length, Some, refl, sym, ap, ◌∙◌, append_assoc, append-nil, length-append, arith}
use Rattle.std.specs.Prelude.{slice_get}
use Rattle.rw_types.specs.Rising.{Rises}
use Rattle.rw_types.proofs.shared.AllLemmas.{AllByRecursion-from_get}
use Rattle.rw_types.proofs.shared.RisingLemmas.{Rises-left, Rises-push}
use Rattle.rw_types.specs.declared.place.Place.{Place}
use Rattle.rw_plain_queue.specs.declared.item.Kind.{Kind}
use Rattle.rw_plain_queue.specs.declared.item.Item.{Item}
use Rattle.rw_plain_queue.specs.declared.item.Item.TheVariants.{Sample, Flush, End}
use Rattle.rw_plain_queue.specs.Items.{places_in, is_end, samples_in}
use Rattle.rw_plain_queue.specs.History.{IsNamed, IsNumbered, StandsBefore, EndIsLast, IsFew, IsHistory, MayFollow, IsOpen, IsEnded}
use Rattle.rw_plain_queue.proofs.shared.Lists.{get_snoc, get_front, cut_snoc, no_front, cut_not_nil}

pub places_in-append : (xs ys : List Item) → places_in (xs ++ ys) ≡ places_in xs ++ places_in ys
places_in-append [] ys = refl
places_in-append (Sample p t w l ∷ xs) ys = ap (λ ps. p ∷ ps) (places_in-append xs ys)
places_in-append (Flush ∷ xs) ys = places_in-append xs ys
places_in-append (End k ∷ xs) ys = places_in-append xs ys

-- after no End anything may be
pub last-push : (put : List Item) (x : Item) → IsOpen put → EndIsLast (put ++ x ∷ [])
last-push put x open' before after kind e = elim (cut_snoc put before after x (End kind) e) [ inl h ↦ h.0 | inr h ↦ absurd (open' before h.0 kind h.1) ]

pub open-push : (put : List Item) (x : Item) → IsOpen put → is_end x ≡ false → IsOpen (put ++ x ∷ [])
open-push put x open' mark before after kind e = elim (cut_snoc put before after x (End kind) e) [ inl h ↦ true≢false (ap is_end (sym h.1) ∙ mark) | inr h ↦ open' before h.0 kind h.1 ]

-- a history goes on by what may follow
pub history-mark : (epoch shard : ℕ) (put : List Item) (x : Item) → IsHistory epoch shard put → IsOpen put → places_in (x ∷ []) ≡ [] → IsHistory epoch shard (put ++ x ∷ [])
history-mark epoch shard put x h open' none =
    let same : places_in (put ++ x ∷ []) ≡ places_in put = places_in-append put (x ∷ []) ∙ ap (λ ps. places_in put ++ ps) none ∙ append-nil (places_in put) in record {
      named = rw same h.named;
      numbered = rw same h.numbered;
      rising = rw same h.rising;
      ending = last-push put x open';
      few = rw same h.few;
    }

pub history-sample : (epoch shard : ℕ) (put : List Item) (x : Item) (p : Place) → IsHistory epoch shard put → IsOpen put → places_in (x ∷ []) ≡ p ∷ []
    → p.epoch ≡ epoch → p.shard ≡ shard → p.seq ≡ length (places_in put) → IsFew (put ++ x ∷ []) → ((k : ℕ) (o : Place) → slice_get (places_in put) k ≡ Some o → o.pos < p.pos) → IsHistory epoch shard (put ++ x ∷ [])
history-sample epoch shard put x p h open' one in_epoch in_shard next room later =
    let ps = places_in put in
    let same : places_in (put ++ x ∷ []) ≡ ps ++ p ∷ [] = places_in-append put (x ∷ []) ∙ ap (λ qs. ps ++ qs) one in record {
      named = rw same (λ k q e. elim (get_snoc ps p q k e) [ inl was ↦ h.named k q was | inr new ↦ (ap (λ (r : Place). r.epoch) (sym new.1) ∙ in_epoch, ap (λ (r : Place). r.shard) (sym new.1) ∙ in_shard) ]);
      numbered = rw same (λ k q e. elim (get_snoc ps p q k e) [ inl was ↦ h.numbered k q was | inr new ↦ ap (λ (r : Place). r.seq) (sym new.1) ∙ next ∙ sym new.0 ]);
      rising = rw same (Rises-push StandsBefore ps p h.rising (AllByRecursion-from_get (λ q. StandsBefore q p) ps later));
      ending = last-push put x open';
      few = room;
    }

pub history-put : (epoch shard : ℕ) (put : List Item) (x : Item) → IsHistory epoch shard put → IsOpen put → MayFollow epoch shard put x → IsHistory epoch shard (put ++ x ∷ [])
history-put epoch shard put (Sample p t w l) h open' may = history-sample epoch shard put (Sample p t w l) p h open' refl may.0 may.1 may.2 may.3 may.4
history-put epoch shard put Flush h open' may = history-mark epoch shard put Flush h open' refl
history-put epoch shard put (End k) h open' may = absurd may

pub open-put : (epoch shard : ℕ) (put : List Item) (x : Item) → IsOpen put → MayFollow epoch shard put x → IsOpen (put ++ x ∷ [])
open-put epoch shard put (Sample p t w l) open' may = open-push put (Sample p t w l) open' refl
open-put epoch shard put Flush open' may = open-push put Flush open' refl
open-put epoch shard put (End k) open' may = absurd may

pub history-end : (epoch shard : ℕ) (put : List Item) (kind : Kind) → IsHistory epoch shard put → IsOpen put → IsHistory epoch shard (put ++ End kind ∷ [])
history-end epoch shard put kind h open' = history-mark epoch shard put (End kind) h open' refl

pub history-nil : (epoch shard : ℕ) → IsHistory epoch shard []
history-nil epoch shard = record {
  named = λ k p e. absurd (cc);
  numbered = λ k p e. absurd (cc);
  rising = tt;
  ending = λ before after kind e. absurd (cut_not_nil before after (End kind) e);
  few = omega arith;
}

pub open-nil : IsOpen []
open-nil before after kind e = cut_not_nil before after (End kind) e

-- a prefix of a history is one
pub history-front : (epoch shard : ℕ) (taken rest : List Item) → IsHistory epoch shard (taken ++ rest) → IsHistory epoch shard taken
history-front epoch shard taken rest h =
    let ps = places_in taken in
    let all : places_in (taken ++ rest) ≡ ps ++ places_in rest = places_in-append taken rest in
    let named : IsNamed epoch shard (ps ++ places_in rest) = rw all at h.named in
    let numbered : IsNumbered (ps ++ places_in rest) = rw all at h.numbered in
    let rising : Rises StandsBefore (ps ++ places_in rest) = rw all at h.rising in record {
      named = λ k p e. named k p (get_front ps (places_in rest) k p e);
      numbered = λ k p e. numbered k p (get_front ps (places_in rest) k p e);
      rising = Rises-left StandsBefore ps (places_in rest) rising;
      ending = λ before after kind e. no_front after rest (h.ending before (after ++ rest) kind (ap (λ xs. xs ++ rest) e ∙ append_assoc before (End kind ∷ after) rest));
      few = let whole : length (ps ++ places_in rest) ≤ 2 ^ 60 = rw all at h.few in omega (arith, length-append ps (places_in rest));
    }

-- what ends in an End is all, if nothing is after an End
pub ended-whole : (put taken items : List Item) → put ≡ taken ++ items → EndIsLast put → IsEnded taken → put ≡ taken
ended-whole put taken items split last ended =
    let cut : put ≡ ended.0 ++ End ended.1 ∷ items = split ∙ ap (λ xs. xs ++ items) ended.2 ∙ append_assoc ended.0 (End ended.1 ∷ []) items in
    let none : items ≡ [] = last ended.0 items ended.1 cut in
    split ∙ ap (λ xs. taken ++ xs) none ∙ append-nil taken

pub samples_in-append : (xs ys : List Item) → samples_in (xs ++ ys) ≡ samples_in xs ++ samples_in ys
samples_in-append [] ys = refl
samples_in-append (Sample place t word labels ∷ xs) ys =
    ap (λ zs. record { place = place; t = t; word = word; labels = labels.value } ∷ zs) (samples_in-append xs ys)
samples_in-append (Flush ∷ xs) ys = samples_in-append xs ys
samples_in-append (End kind ∷ xs) ys = samples_in-append xs ys
