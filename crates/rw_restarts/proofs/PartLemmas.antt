-- A part of a list comes to a head that holds a prefix of it.
use Rattle.std.proofs.Common.{◌≡◌, ◌⊎◌, inl, inr, Bool, true, false, cond, List, [], ◌∷◌, ◌++◌, append-nil, append_assoc, Some, None, Ok, refl, sym, ap, ◌∙◌, subst}
use Rattle.std.specs.List.{AllByRecursion}
use Rattle.std.proofs.lemmas.List.{append_cancel_left}
use Rattle.std.proofs.lemmas.Option.{same_Some}
use Rattle.rw_types.specs.Beginnings.{Begins}
use Rattle.rw_types.specs.Rising.{Rises}
use Rattle.rw_types.specs.Labels.{Labels}
use Rattle.rw_types.specs.LabelOrder.{labels_eq}
use Rattle.rw_types.proofs.shared.BeginningLemmas.{begins_itself, begins_twice}
use Rattle.rw_types.proofs.shared.RisingLemmas.{Rises-left}
use Rattle.rw_types.proofs.shared.OrderLemmas.{same_if_equal, equal_if_same}
use Rattle.rw_write_request.specs.Message.{TimeSeries, WriteRequest}
use Rattle.rw_head.specs.Lists.{IsEarlier}
use Rattle.rw_head.specs.Order.{Point, points, accept, holds}
use Rattle.rw_head.specs.Store.{Store, list_of, with_list}
use Rattle.rw_head.specs.Verdicts.{LabelLimits, refusal, accepted, taken, taken_unless, taken_all}
use Rattle.rw_head.proofs.shared.StoreLemmas.{list_of-with_list}
use Rattle.rw_restarts.specs.Parts.{points_in, IsNextPart, AreWithinLimits, IsLonger, TakesAllPoints, NextPartIsAccepted}
use Rattle.rw_head.proofs.shared.OrderRule.{accept_repeats, accept_later, accept-append, hold_all}

-- of two prefixes of one list one is a prefix of the other
abbrev Splits : List Point → List Point → List Point → List Point → Type 0
Splits xs more ys rest = ((k : List Point) × (ys ≡ xs ++ k) × (more ≡ k ++ rest)) ⊎ ((k : List Point) × (xs ≡ ys ++ k) × (rest ≡ k ++ more))

split : (xs more ys rest : List Point) → xs ++ more ≡ ys ++ rest → Splits xs more ys rest
split [] more ys rest e = inl (ys, refl, e)
split (x ∷ xs) more [] rest e = inr (x ∷ xs, refl, sym e)
split (x ∷ xs) more (y ∷ ys) rest e =
    let head : x ≡ y = cc in
    let tail : xs ++ more ≡ ys ++ rest = cc in
    cons_split head (split xs more ys rest tail)
  where
    cons_split : x ≡ y → Splits xs more ys rest → Splits (x ∷ xs) more (y ∷ ys) rest
    cons_split h (inl s) = inl (s.0, (λ i. sym h i ∷ s.1 i), s.2)
    cons_split h (inr s) = inr (s.0, (λ i. h i ∷ s.1 i), s.2)

-- ---- one list
-- what a list becomes
pub record Becomes (held xs reached whole : List Point) : Type 0 where
  pub next : List Point
  pub gives : accept (Some held) xs ≡ Some next
  pub longer : IsLonger held reached next whole

module _ (whole held xs : List Point) (up : Rises IsEarlier whole) (b : Begins held whole) (c : IsNextPart whole held xs) where
  -- what is held after `before`
  abbrev more_held : List Point
  more_held = c.reached.0

  held_is : held ≡ c.before ++ more_held
  held_is = c.reached.1

  meets : xs ++ c.more ≡ more_held ++ b.0
  meets = append_cancel_left c.before (xs ++ c.more) (more_held ++ b.0) (sym c.place ∙ b.1 ∙ ap (λ ys. ys ++ b.0) held_is ∙ append_assoc c.before more_held b.0)

  by_split : Splits xs c.more more_held b.0 → Becomes held xs (c.before ++ xs) whole
  by_split (inl s) =
      let is : held ≡ c.before ++ (xs ++ s.0) = held_is ∙ ap (λ ys. c.before ++ ys) s.1 in
      record {
        next = held;
        gives = accept_repeats held xs (Rises-left IsEarlier held b.0 (subst (Rises IsEarlier) b.1 up)) (subst (λ ys. AllByRecursion (λ p. holds p ys ≡ true) xs) (sym is) (hold_all c.before xs s.0));
        longer = record { grows = begins_itself held; has = (s.0, is ∙ sym (append_assoc c.before xs s.0)); within = b };
      }
  by_split (inr s) =
      let more_is : whole ≡ (held ++ s.0) ++ c.more = b.1 ∙ ap (λ ys. held ++ ys) s.2 ∙ sym (append_assoc held s.0 c.more) in
      let up_held : Rises IsEarlier held = Rises-left IsEarlier held b.0 (subst (Rises IsEarlier) b.1 up) in
      let up_next : Rises IsEarlier (held ++ s.0) = Rises-left IsEarlier (held ++ s.0) c.more (subst (Rises IsEarlier) more_is up) in
      let all_held : AllByRecursion (λ p. holds p held ≡ true) more_held =
      subst (λ ys. AllByRecursion (λ p. holds p ys ≡ true) more_held) (ap (λ ys. c.before ++ ys) (append-nil more_held) ∙ sym held_is) (hold_all c.before more_held []) in
      record {
        next = held ++ s.0;
        gives = ap (accept (Some held)) s.1 ∙ accept-append (Some held) more_held s.0 ∙ ap (λ o. accept o s.0) (accept_repeats held more_held up_held all_held) ∙ accept_later held s.0 up_next;
        longer = record {
          grows = (s.0, refl);
          has = ([], ap (λ ys. ys ++ s.0) held_is ∙ append_assoc c.before more_held s.0 ∙ ap (λ ys. c.before ++ ys) (sym s.1) ∙ sym (append-nil (c.before ++ xs)));
          within = (c.more, more_is);
        };
      }

  pub becomes : Becomes held xs (c.before ++ xs) whole
  becomes = by_split (split xs c.more more_held b.0 meets)

-- ---- a series
pub itself : (l : Labels) → labels_eq l l ≡ true
itself l = equal_if_same l l refl

abbrev FitsEach : (Labels → List Point) → Store → WriteRequest → Type 0
FitsEach whole store m = (l : Labels) → IsNextPart (whole l) (list_of store l) (points_in l m)

-- the first part of what comes next, and what comes after it
abbrev first_part : (w held ws xs ys : List Point) → ws ≡ xs ++ ys → IsNextPart w held ws → IsNextPart w held xs
first_part w held ws xs ys e c = record { before = c.before; more = ys ++ c.more; place = c.place ∙ ap (λ zs. c.before ++ (zs ++ c.more)) e ∙ ap (λ zs. c.before ++ zs) (append_assoc xs ys c.more); reached = c.reached }

abbrev second_part : (w held ws xs ys next : List Point) → ws ≡ xs ++ ys → (c : IsNextPart w held ws) → Begins (c.before ++ xs) next → IsNextPart w next ys
second_part w held ws xs ys next e c r = record {
  before = c.before ++ xs;
  more = c.more;
  place = c.place ∙ ap (λ zs. c.before ++ (zs ++ c.more)) e ∙ ap (λ zs. c.before ++ zs) (append_assoc xs ys c.more) ∙ sym (append_assoc c.before xs (ys ++ c.more));
  reached = r;
}

nothing_more : (l : Labels) (whole : Labels → List Point) (store : Store) (c : IsNextPart (whole l) (list_of store l) []) → Begins (list_of store l) (whole l) → IsLonger (list_of store l) (c.before ++ []) (list_of store l) (whole l)
nothing_more l whole store c h = record { grows = begins_itself (list_of store l); has = (c.reached.0, c.reached.1 ∙ ap (λ ys. ys ++ c.reached.0) (sym (append-nil c.before))); within = h }

module _ (limits : LabelLimits) (whole : Labels → List Point) (up : (l : Labels) → Rises IsEarlier (whole l)) where
  -- ---- one series
  module _ (s : TimeSeries) (ss : WriteRequest) (store : Store) (h : (l : Labels) → Begins (list_of store l) (whole l)) (fine : refusal limits s.labels ≡ None) (next : FitsEach whole store (s ∷ ss)) where
    abbrev new_points : List Point
    new_points = points s.samples

    same_points : (l : Labels) (b : Bool) → labels_eq l s.labels ≡ b → points_in l (s ∷ ss) ≡ cond b new_points [] ++ points_in l ss
    same_points l b e = ap (λ c. cond c new_points [] ++ points_in l ss) e

    -- what the list of these labels becomes
    list_becomes : (l : Labels) → labels_eq l s.labels ≡ true → Becomes (list_of store l) new_points ((next l).before ++ new_points) (whole l)
    list_becomes l e = becomes (whole l) (list_of store l) new_points (up l) (h l) (first_part (whole l) (list_of store l) (points_in l (s ∷ ss)) new_points (points_in l ss) (same_points l true e) (next l))

    its_list : Becomes (list_of store s.labels) new_points ((next s.labels).before ++ new_points) (whole s.labels)
    its_list = list_becomes s.labels (itself s.labels)

    abbrev mid : Store
    mid = with_list s.labels its_list.next store

    step : taken limits store s ≡ Ok mid
    step = ap (λ r. taken_unless r store s) fine ∙ ap (accepted s.labels store) its_list.gives

    -- what then comes of a label set
    record Rest (l : Labels) : Type 0 where
      pub comes : IsNextPart (whole l) (list_of mid l) (points_in l ss)
      pub before_is : comes.before ≡ (next l).before ++ cond (labels_eq l s.labels) new_points []
      pub grows : Begins (list_of store l) (list_of mid l)
      pub within : Begins (list_of mid l) (whole l)

    at_own : (l : Labels) → labels_eq l s.labels ≡ true → Rest l
    at_own l e =
        let here = list_becomes l e in
        let same : l ≡ s.labels = same_if_equal l s.labels e in
        let next_is : here.next ≡ its_list.next = same_Some here.next its_list.next (sym here.gives ∙ ap (λ q. accept (Some (list_of store q)) new_points) same ∙ its_list.gives) in
        let list_is : list_of mid l ≡ here.next = list_of-with_list s.labels its_list.next store l ∙ ap (λ b. cond b its_list.next (list_of store l)) e ∙ sym next_is in
        record {
          comes = second_part (whole l) (list_of store l) (points_in l (s ∷ ss)) new_points (points_in l ss) (list_of mid l) (same_points l true e) (next l) (subst (Begins ((next l).before ++ new_points)) (sym list_is) here.longer.has);
          before_is = ap (λ b. (next l).before ++ cond b new_points []) (sym e);
          grows = subst (Begins (list_of store l)) (sym list_is) here.longer.grows;
          within = subst (λ ys. Begins ys (whole l)) (sym list_is) here.longer.within;
        }

    at_other : (l : Labels) → labels_eq l s.labels ≡ false → Rest l
    at_other l e =
        let list_is : list_of mid l ≡ list_of store l = list_of-with_list s.labels its_list.next store l ∙ ap (λ b. cond b its_list.next (list_of store l)) e in
        record {
          comes = record {
            before = (next l).before;
            more = (next l).more;
            place = (next l).place ∙ ap (λ zs. (next l).before ++ (zs ++ (next l).more)) (same_points l false e);
            reached = subst (Begins (next l).before) (sym list_is) (next l).reached;
          };
          before_is = sym (append-nil (next l).before) ∙ ap (λ b. (next l).before ++ cond b new_points []) (sym e);
          grows = subst (Begins (list_of store l)) (sym list_is) (begins_itself (list_of store l));
          within = subst (λ ys. Begins ys (whole l)) (sym list_is) (h l);
        }

    by_label : (l : Labels) (b : Bool) → labels_eq l s.labels ≡ b → Rest l
    by_label l true e = at_own l e
    by_label l false e = at_other l e

    rest_at : (l : Labels) → Rest l
    rest_at l = by_label l (labels_eq l s.labels) refl

    then : TakesAllPoints limits whole mid ss (λ l. (rest_at l).comes) → TakesAllPoints limits whole store (s ∷ ss) next
    then rest = record {
      after = rest.after;
      taken = ap (λ r. taken_all limits r ss) step ∙ rest.taken;
      longer = λ l. record {
        grows = begins_twice (list_of store l) (list_of mid l) (list_of rest.after l) (rest_at l).grows (rest.longer l).grows;
        has = subst (λ zs. Begins zs (list_of rest.after l)) (ap (λ zs. zs ++ points_in l ss) (rest_at l).before_is ∙ append_assoc (next l).before (cond (labels_eq l s.labels) new_points []) (points_in l ss)) (rest.longer l).has;
        within = (rest.longer l).within;
      };
    }

  -- ---- a message
  pub fits : (m : WriteRequest) (store : Store) → ((l : Labels) → Begins (list_of store l) (whole l)) → AreWithinLimits limits m → (next : FitsEach whole store m) → TakesAllPoints limits whole store m next
  fits [] store h fit next = record { after = store; taken = refl; longer = λ l. nothing_more l whole store (next l) (h l) }
  fits (s ∷ ss) store h fit next =
      then s ss store h fit.0 next (fits ss (with_list s.labels (its_list s ss store h fit.0 next).next store) (λ l. (rest_at s ss store h fit.0 next l).within) fit.1 (λ l. (rest_at s ss store h fit.0 next l).comes))

pub next-part-accepted : (limits : LabelLimits) (whole : Labels → List Point) (store : Store) (m : WriteRequest) → NextPartIsAccepted limits whole store m
next-part-accepted limits whole store m up h fit next = fits limits whole up m store h fit next
