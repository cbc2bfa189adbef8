-- A head that lacks old samples answers as one that holds everything.
use Rattle.std.proofs.Common.{◌≡◌, inl, inr, ℕ, ◌-◌, ℤ, pos, negsuc, int_lt, ltb, List, [], ◌∷◌, ◌++◌, Bool, true, false, cond, Option, Some, None, Result, Ok, Err, refl, sym, ap, ◌∙◌, subst, arith}
use Rattle.std.specs.Prelude.{nat_lt}
use Rattle.std.proofs.lemmas.Bool.Decides.{nat_tests}
use Rattle.rw_types.specs.Labels.{Labels}
use Rattle.rw_types.specs.LabelOrder.{labels_eq}
use Rattle.rw_types.specs.Rising.{Rises}
use Rattle.rw_types.proofs.shared.OrderLemmas.{same_if_equal}
use Rattle.rw_write_request.specs.Message.{TimeSeries, WriteRequest}
use Rattle.rw_write_request.specs.Read.{read}
use Rattle.rw_write_request.specs.declared.fault.WireFault.{WireFault}
use Rattle.rw_head.specs.declared.verdict.Verdict.{Verdict}
use Rattle.rw_head.specs.Forgetting.{with_gone}
use Rattle.rw_head.specs.Head.{State, status_of, answered, judged_body, answer_to, answer}
use Rattle.rw_head.specs.Lists.{IsEarlier}
use Rattle.rw_head.specs.Order.{Point, points, is_later, holds, accept_one, accept}
use Rattle.rw_head.specs.Store.{Store, list_of, with_list}
use Rattle.rw_head.specs.Verdicts.{LabelLimits, refusal, accepted, taken_unless, taken, taken_all, judged}
use Rattle.rw_head.proofs.shared.GrowthLemmas.{rises_at_each}
use Rattle.rw_head.proofs.shared.OrderLemmas.{accept-none}
use Rattle.rw_head.proofs.shared.StoreLemmas.{list_of-with_list}
use Rattle.rw_head.proofs.shared.VerdictLemmas.{taken_all-err}
use Rattle.rw_kept_log.specs.Checkpoints.{AreNotAfter}
use Rattle.rw_kept_head.specs.Past.{AnswerAlike, Lacks, IsHeadWithout, CanJudge, CanJudgeAll, CanJudgeBody, CanJudgeEach}
use Rattle.rw_kept_head.proofs.AdmittedLemmas.{rises_one, rises_all}

-- ---- timestamps

ltb-later : (a b c : ℕ) → ltb b a ≡ false → ltb b c ≡ true → ltb a c ≡ true
ltb-later a b c h k = grind (arith, nat_tests)

ltb-before : (a b c : ℕ) → ltb a b ≡ true → ltb c b ≡ false → ltb a c ≡ true
ltb-before a b c h k = grind (arith, nat_tests)

-- a ≤ b < c
le_then_lt : (a b c : ℤ) → int_lt b a ≡ false → int_lt b c ≡ true → int_lt a c ≡ true
le_then_lt (pos a) (pos b) (pos c) h k = ltb-later a b c h k
le_then_lt (pos a) (pos b) (negsuc c) h k = absurd cc
le_then_lt (pos a) (negsuc b) c h k = absurd cc
le_then_lt (negsuc a) (pos b) (pos c) h k = refl
le_then_lt (negsuc a) (pos b) (negsuc c) h k = absurd cc
le_then_lt (negsuc a) (negsuc b) (pos c) h k = refl
le_then_lt (negsuc a) (negsuc b) (negsuc c) h k = ltb-before c b a k h

-- a < b ≤ c
lt_then_le : (a b c : ℤ) → int_lt a b ≡ true → int_lt c b ≡ false → int_lt a c ≡ true
lt_then_le (pos a) (pos b) (pos c) h k = ltb-before a b c h k
lt_then_le (pos a) (pos b) (negsuc c) h k = absurd cc
lt_then_le (pos a) (negsuc b) c h k = absurd cc
lt_then_le (negsuc a) (pos b) (pos c) h k = refl
lt_then_le (negsuc a) (pos b) (negsuc c) h k = absurd cc
lt_then_le (negsuc a) (negsuc b) (pos c) h k = refl
lt_then_le (negsuc a) (negsuc b) (negsuc c) h k = ltb-later c b a k h

-- ---- what can be judged is later than all that is gone

later_than_floor : (floor t : ℤ) (gone : List Point) → AreNotAfter floor gone → int_lt floor t ≡ true → is_later t gone ≡ true
later_than_floor floor t [] all h = refl
later_than_floor floor t (x ∷ []) all h = le_then_lt x.0 floor t all.0 h
later_than_floor floor t (x ∷ y ∷ ys) all h = later_than_floor floor t (y ∷ ys) all.1 h

later_than_gone : (t : ℤ) (gone : List Point) (x : Point) (xs : List Point) → Rises IsEarlier (gone ++ x ∷ xs) → int_lt t x.0 ≡ false → is_later t gone ≡ true
later_than_gone t [] x xs rises h = refl
later_than_gone t (g ∷ []) x xs rises h = lt_then_le g.0 x.0 t rises.0.0 h
later_than_gone t (g ∷ f ∷ gs) x xs rises h = later_than_gone t (f ∷ gs) x xs rises.1 h

surely_later : (floor : ℤ) (gone held : List Point) (p : Point) → AreNotAfter floor gone → Rises IsEarlier (gone ++ held) → CanJudge floor held p → is_later p.0 gone ≡ true
surely_later floor gone [] p all rises h = later_than_floor floor p.0 gone all h
surely_later floor gone (x ∷ xs) p all rises (inl h) = later_than_floor floor p.0 gone all h
surely_later floor gone (x ∷ xs) p all rises (inr h) = later_than_gone p.0 gone x xs rises h

-- ---- a message is judged alike

-- both stores after a message, or the same verdict
abbrev Alike : ℤ → (Labels → List Point) → Result Store Verdict → Result Store Verdict → Type 0
Alike floor gone (Ok whole) (Ok held) = Lacks floor gone whole held
Alike floor gone (Err v) (Err u) = v ≡ u
Alike floor gone _ _ = ⊥

-- how a list without what is gone judges a sample that is later than that
abbrev pub Judges : Type 0
Judges = (gone held : List Point) (s : Point) → Rises IsEarlier (gone ++ held) → is_later s.0 gone ≡ true → accept_one (gone ++ held) s ≡ with_gone gone (accept_one held s)

module _ (judges : Judges) (floor : ℤ) where
  accept_all : (gone held ss : List Point) → AreNotAfter floor gone → Rises IsEarlier (gone ++ held) → CanJudgeEach floor held ss → accept (Some (gone ++ held)) ss ≡ with_gone gone (accept (Some held) ss)
  accept_all gone held [] below rises all = refl
  accept_all gone held (s ∷ ss) below rises all = ap (λ (o : Option (List Point)). accept o ss) one ∙ by_outcome (λ ys. accept_all gone ys ss below) (accept_one held s) refl
    where
      one : accept_one (gone ++ held) s ≡ with_gone gone (accept_one held s)
      one = judges gone held s rises (surely_later floor gone held s below rises all.0)

      by_outcome : ((ys : List Point) → Rises IsEarlier (gone ++ ys) → CanJudgeEach floor ys ss → accept (Some (gone ++ ys)) ss ≡ with_gone gone (accept (Some ys) ss)) → (o : Option (List Point)) → accept_one held s ≡ o → accept (with_gone gone o) ss ≡ with_gone gone (accept o ss)
      by_outcome further None e = accept-none ss ∙ sym (ap (with_gone gone) (accept-none ss))
      by_outcome further (Some ys) e =
          further ys
          (rises_one (gone ++ held) s (gone ++ ys) (is_later s.0 (gone ++ held)) (holds s (gone ++ held)) refl (one ∙ ap (with_gone gone) e) rises)
          (all.1 ys e)

  module _ (gone : Labels → List Point) (limits : LabelLimits) where
    put_alike : (w h : Store) (l : Labels) (ys : List Point) → Lacks floor gone w h → Rises IsEarlier (gone l ++ ys) → Lacks floor gone (with_list l (gone l ++ ys) w) (with_list l ys h)
    put_alike w h l ys lacks rises = record {
      lists = λ q. list_of-with_list l (gone l ++ ys) w q ∙ at_each q (labels_eq q l) refl ∙ ap (λ (zs : List Point). gone q ++ zs) (sym (list_of-with_list l ys h q));
      below = lacks.below;
      rises = λ q. subst (Rises IsEarlier) (sym (list_of-with_list l (gone l ++ ys) w q)) (rises_at_each (labels_eq q l) (gone l ++ ys) (list_of w q) rises (lacks.rises q));
    }
      where
        at_each : (q : Labels) (b : Bool) → labels_eq q l ≡ b → cond b (gone l ++ ys) (list_of w q) ≡ gone q ++ cond b ys (list_of h q)
        at_each q true e = ap (λ (k : Labels). gone k ++ ys) (sym (same_if_equal q l e))
        at_each q false e = lacks.lists q

    series_alike : (w h : Store) (x : TimeSeries) → Lacks floor gone w h → (refusal limits x.labels ≡ None → CanJudgeEach floor (list_of h x.labels) (points x.samples)) → Alike floor gone (taken limits w x) (taken limits h x)
    series_alike w h x lacks all = unless (refusal limits x.labels) refl
      where
        l : Labels
        l = x.labels

        ss : List Point
        ss = points x.samples

        whole_rises : Rises IsEarlier (gone l ++ list_of h l)
        whole_rises = subst (Rises IsEarlier) (lacks.lists l) (lacks.rises l)

        here : (o : Option (List Point)) → accept (Some (list_of h l)) ss ≡ o → accept (Some (gone l ++ list_of h l)) ss ≡ with_gone (gone l) o → Alike floor gone (accepted l w (with_gone (gone l) o)) (accepted l h o)
        here None e whole = refl
        here (Some ys) e whole = put_alike w h l ys lacks (rises_all ss (gone l ++ list_of h l) (gone l ++ ys) whole whole_rises)

        both : CanJudgeEach floor (list_of h l) ss → Alike floor gone (accepted l w (accept (Some (list_of w l)) ss)) (accepted l h (accept (Some (list_of h l)) ss))
        both each =
            let same : accept (Some (gone l ++ list_of h l)) ss ≡ with_gone (gone l) (accept (Some (list_of h l)) ss) = accept_all (gone l) (list_of h l) ss (lacks.below l) whole_rises each in
            subst (λ (o : Option (List Point)). Alike floor gone (accepted l w o) (accepted l h (accept (Some (list_of h l)) ss)))
            (sym (ap (λ (xs : List Point). accept (Some xs) ss) (lacks.lists l) ∙ same)) (here (accept (Some (list_of h l)) ss) refl same)

        unless : (o : Option Verdict) → refusal limits x.labels ≡ o → Alike floor gone (taken_unless o w x) (taken_unless o h x)
        unless (Some v) e = refl
        unless None e = both (all e)

    all_alike : (m : WriteRequest) (w h : Store) → Lacks floor gone w h → CanJudgeAll limits floor h m → Alike floor gone (taken_all limits (Ok w) m) (taken_all limits (Ok h) m)
    all_alike [] w h lacks all = lacks
    all_alike (x ∷ xs) w h lacks all = step (all_alike xs) (taken limits w x) (taken limits h x) refl (series_alike w h x lacks all.0)
      where
        step : ((v k : Store) → Lacks floor gone v k → CanJudgeAll limits floor k xs → Alike floor gone (taken_all limits (Ok v) xs) (taken_all limits (Ok k) xs)) → (r s : Result Store Verdict) → taken limits h x ≡ s → Alike floor gone r s → Alike floor gone (taken_all limits r xs) (taken_all limits s xs)
        step further (Ok v) (Ok k) e alike = further v k alike (all.1 k e)
        step further (Err v) (Err u) e alike =
            subst (λ (r : Result Store Verdict). Alike floor gone r (taken_all limits (Err u) xs)) (sym (taken_all-err limits v xs))
            (subst (λ (r : Result Store Verdict). Alike floor gone (Err v) r) (sym (taken_all-err limits u xs)) alike)
        step further (Ok v) (Err u) e alike = absurd alike
        step further (Err v) (Ok k) e alike = absurd alike

    -- ---- a body is answered alike
    abbrev state : Store → ℕ → State
    state store busy = record { store = store; limits = limits; busy = busy }

    judged_alike : (w h : Store) (busy : ℕ) (r s : Result Store Verdict) → Lacks floor gone w h → Alike floor gone r s → AnswerAlike floor gone (answered (state w busy) (judged w r)) (answered (state h busy) (judged h s))
    judged_alike w h busy (Ok v) (Ok k) lacks alike = record { status = refl; head = record { lacks = alike; limits = refl; busy = refl } }
    judged_alike w h busy (Err v) (Err u) lacks alike = record { status = ap status_of alike; head = record { lacks = lacks; limits = refl; busy = refl } }
    judged_alike w h busy (Ok v) (Err u) lacks alike = absurd alike
    judged_alike w h busy (Err v) (Ok k) lacks alike = absurd alike

    found_alike : (w h : Store) (busy : ℕ) (found : Result WriteRequest WireFault) → Lacks floor gone w h → CanJudgeBody floor (state h busy) found
        → AnswerAlike floor gone (answered (state w busy) (judged_body (state w busy) found)) (answered (state h busy) (judged_body (state h busy) found))
    found_alike w h busy (Ok m) lacks all = judged_alike w h busy (taken_all limits (Ok w) m) (taken_all limits (Ok h) m) lacks (all_alike m w h lacks all)
    found_alike w h busy (Err e) lacks all = record { status = refl; head = record { lacks = lacks; limits = refl; busy = refl } }

    body_alike : (w h : Store) (busy : ℕ) (found : Result WriteRequest WireFault) → Lacks floor gone w h → CanJudgeBody floor (state h busy) found → AnswerAlike floor gone (answer_to (state w busy) found) (answer_to (state h busy) found)
    body_alike w h busy found lacks all = by_busy (nat_lt 0 busy)
      where
        by_busy : (b : Bool) → AnswerAlike floor gone (cond b (record { status = 429; head = record (state w busy) { busy = busy - 1 } }) (answered (state w busy) (judged_body (state w busy) found)))
            (cond b (record { status = 429; head = record (state h busy) { busy = busy - 1 } }) (answered (state h busy) (judged_body (state h busy) found)))
        by_busy true = record { status = refl; head = record { lacks = lacks; limits = refl; busy = refl } }
        by_busy false = found_alike w h busy found lacks all

pub answered_alike : (judges : Judges) (floor : ℤ) (gone : Labels → List Point) (whole held : State) (body : List ℕ) → IsHeadWithout floor gone whole held → CanJudgeBody floor held (read body)
    → AnswerAlike floor gone (answer whole body) (answer held body)
answered_alike judges floor gone whole held body without all =
    let same : record { store = whole.store; limits = held.limits; busy = held.busy } ≡ whole =
    ap (λ (limits : LabelLimits). record { store = whole.store; limits = limits; busy = held.busy }) (sym without.limits) ∙ ap (λ (busy : ℕ). record { store = whole.store; limits = whole.limits; busy = busy }) (sym without.busy) in
    subst (λ (h : State). AnswerAlike floor gone (answer h body) (answer held body)) same (body_alike judges floor gone held.limits whole.store held.store held.busy (read body) without.lacks all)
