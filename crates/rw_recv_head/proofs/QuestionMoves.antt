-- Each step of the pass under the lock keeps what the passes know.
use Rattle.std.proofs.Common.{◌≡◌, ◌≢◌, ℕ, zero, suc, ◌+◌, List, [], ◌∷◌, ◌++◌, length, set, cond, eqb, eq-eqb, ne_eqb, ◌||◌, ◌==◌, Bool, true, false, true≢false, append-nil, refl, sym, ap, ◌∙◌, subst, ⊎_elim, arith}
use Rattle.std.specs.List.{list_any}
use Rattle.std.proofs.lemmas.List.Elements.{filter-append}
use mathlib.Core.Option.{some, none, some-ne-none, some-injective}
use lib.ListN.{get_elem?}
use prog.Atomic.{either}
use Rattle.atomic_table.specs.Table.{Me, keeps, step, Allows, Splits, Joins}
use Rattle.atomic_table.proofs.Lists.{at_set, set_again}
use Rattle.rw_types.specs.Beginnings.{Begins}
use Rattle.rw_types.proofs.shared.BeginningLemmas.{begins_itself, begins_twice}
use Rattle.rw_recv_head.specs.declared.question.Question.{Question}
use Rattle.rw_recv_head.specs.declared.questions.PassState.{PassState}
use Rattle.rw_recv_head.specs.declared.questions.View.{View}
use Rattle.rw_recv_head.specs.Seats.{own}
use Rattle.rw_recv_head.specs.inner.Questions.{nothing_known, keeper, host, sitter, guest, with_seat, IsSeat, Fits, AreKept, Added, Returned}

off : false ≡ true → ⊥
off e = true≢false (sym e)

-- ---- what holds of each view, if one is set or is new
all_set : (P : ℕ → View → Type 0) (views : List View) (by : ℕ) (w : View)
    → ((j : ℕ) (u : View) → j ≢ by → get_elem? views j ≡ some u → P j u) → P by w
    → (j : ℕ) (u : View) → get_elem? (set views by w) j ≡ some u → P j u
all_set P views by w others mine j u e =
    ⊎_elim
    (λ (x : (j ≡ by) × (w ≡ u)). subst (λ (y : ℕ × View). P y.0 y.1) (λ i. (sym x.0 i, x.1 i)) mine)
    (λ (x : (j ≢ by) × (get_elem? views j ≡ some u)). others j u x.0 x.1)
    (at_set views by j w u e)

all_snoc : (P : ℕ → View → Type 0) (views : List View) (w : View)
    → ((j : ℕ) (u : View) → get_elem? views j ≡ some u → P j u) → P (length views) w
    → (j : ℕ) (u : View) → get_elem? (views ++ w ∷ []) j ≡ some u → P j u
all_snoc P [] w others mine zero u e = subst (P 0) (some-injective _ _ e) mine
all_snoc P [] w others mine (suc j) u e = absurd (some-ne-none u (sym e))
all_snoc P (x ∷ xs) w others mine zero u e = others zero u e
all_snoc P (x ∷ xs) w others mine (suc j) u e = all_snoc (λ k. P (suc k)) xs w (λ k y. others (suc k) y) mine j u e

-- ---- the place of one number is another one
abbrev moved : (ℕ → ℕ) → ℕ → ℕ → ℕ → ℕ
moved at n place m = cond (eqb m n) place (at m)

moved_here : (at : ℕ → ℕ) (n place : ℕ) → place ≡ moved at n place n
moved_here at n place = sym (ap (λ b. cond b place (at n)) (eq-eqb n n refl))

module _ (place : ℕ) (known : PassState) (at : ℕ → ℕ) where
  keeper_fits : (other : PassState) (k : ℕ) → k ≡ place → other ≡ known → Fits place known at k (keeper other)
  keeper_fits other k here same = record { keeps = λ _. (here, same); sits = λ e. absurd (off e) }

  guest_fits : (k : ℕ) → Fits place known at k guest
  guest_fits k = record { keeps = λ e. absurd (off e); sits = λ e. absurd (off e) }

  sitter_fits : (k number : ℕ) (seen : List Question) → k ≡ at number → IsSeat known number seen → Fits place known at k (sitter number seen)
  sitter_fits k number seen here seat = record { keeps = λ e. absurd (off e); sits = λ _. (here, seat) }

  host_fits : (other : PassState) (k number : ℕ) (seen : List Question) → k ≡ place → other ≡ known → k ≡ at number → IsSeat known number seen
      → Fits place known at k (host other number seen)
  host_fits other k number seen there same here seat = record { keeps = λ _. (there, same); sits = λ _. (here, seat) }

  -- if another number moves, a pass stays as it is
  still : (j n to : ℕ) (u : View) → Fits place known at j u → (u.sits ≡ true → u.number ≢ n) → Fits place known (moved at n to) j u
  still j n to u f apart = record {
    keeps = f.keeps;
    sits = λ e.
        let t = f.sits e in
        (t.0 ∙ sym (ap (λ b. cond b to (at u.number)) (ne_eqb u.number n (apart e))), t.1);
  }

  -- what sits elsewhere sits with another number
  elsewhere : (by n j : ℕ) (u : View) → by ≡ at n → j ≢ by → Fits place known at j u → u.sits ≡ true → u.number ≢ n
  elsewhere by n j u here ne f e same = ne ((f.sits e).0 ∙ ap at same ∙ sym here)

  -- if more is known, and the pass neither keeps it nor sits with a number for which that counts
  with_more : (now : PassState) (j by : ℕ) (u : View) → by ≡ place → j ≢ by → Fits place known at j u
      → (u.sits ≡ true → IsSeat known u.number u.seen → IsSeat now u.number u.seen) → Fits place now at j u
  with_more now j by u here ne f seat = record {
    keeps = λ k. absurd (ne ((f.keeps k).0 ∙ sym here));
    sits = λ e. let t = f.sits e in (t.0, seat e t.1);
  }

-- ---- a question more, of one seat
own_more : (number : ℕ) (asked : List Question) (q : Question) → number ≢ q.seat → own number (asked ++ q ∷ []) ≡ own number asked
own_more number asked q ne =
    filter-append (λ (p : Question). p.seat == number) asked (q ∷ [])
    ∙ ap (λ (b : Bool). own number asked ++ cond b (q ∷ []) []) (ne_eqb q.seat number (λ e. ne (sym e)))
    ∙ append-nil (own number asked)

others_stay : (known : PassState) (number : ℕ) (seen : List Question) (q : Question) → number ≢ q.seat → IsSeat known number seen
    → IsSeat (record known { asked = known.asked ++ q ∷ [] }) number seen
others_stay known number seen q ne i = record {
  given = i.given;
  away = i.away;
  begins = begins_twice seen known.asked _ i.begins (q ∷ [], refl);
  alone = own_more number known.asked q ne ∙ i.alone;
}

-- ---- the steps
pub first_kept : (words : List ℕ) → AreKept record { words = words; homes = []; views = keeper nothing_known ∷ [] }
first_kept words = record { place = 0; known = nothing_known; at = λ _. 0; fits = one }
  where
    one : (k : ℕ) (v : View) → get_elem? (keeper nothing_known ∷ []) k ≡ some v → Fits 0 nothing_known (λ _. 0) k v
    one zero v e = subst (Fits 0 nothing_known (λ _. 0) 0) (some-injective _ _ e) (keeper_fits 0 nothing_known (λ _. 0) nothing_known 0 refl refl)
    one (suc k) v e = absurd (some-ne-none v (sym e))

pub stands : (by : ℕ) (v : View) → Splits AreKept by v v guest
stands by v s h here = record {
  place = h.place;
  known = h.known;
  at = h.at;
  fits = all_snoc (Fits h.place h.known h.at) (set s.views by v) guest
      (λ j u e. h.fits j u (subst (λ l. get_elem? l j ≡ some u) (set_again s.views by v here) e))
      (guest_fits h.place h.known h.at (length (set s.views by v)));
}

gives : (by : ℕ) (known : PassState) → known.back ≡ []
    → Splits AreKept by (keeper known) (keeper (record known { given = known.given + 1 })) (sitter known.given known.asked)
gives by known empty s h here =
    let mine = (h.fits by (keeper known) here).keeps refl in
    let more : PassState → PassState = λ k. record k { given = k.given + 1 } in
    let now : PassState = more h.known in
    let left : View = keeper (more known) in
    let views : List View = set s.views by left in
    let at = moved h.at known.given (length views) in
    let same : h.known ≡ known = sym mine.1 in
    record {
      place = h.place;
      known = now;
      at = at;
      fits = all_snoc (Fits h.place now at) views (sitter known.given known.asked)
          (all_set (Fits h.place now at) s.views by left
          (λ j u ne e.
          let f = h.fits j u e in
          let g : Fits h.place now h.at j u = with_more h.place h.known h.at now j by u mine.0 ne f
          (λ _ i. record { given = omega (arith, i.given); away = i.away; begins = i.begins; alone = i.alone }) in
          still h.place now h.at j known.given (length views) u g
          (λ sits is. let below = ((f.sits sits).1).given in omega (arith, below, is, ap (λ (k : PassState). k.given) same)))
          (keeper_fits h.place now at (more known) by mine.0 (ap more mine.1)))
          (sitter_fits h.place now at (length views) known.given known.asked (moved_here h.at known.given (length views)) record {
            given = omega (arith, ap (λ (k : PassState). k.given) same);
            away = ap (λ (k : PassState). list_any (eqb known.given) k.back) same ∙ ap (list_any (eqb known.given)) empty;
            begins = subst (λ (k : PassState). Begins known.asked k.asked) mine.1 (begins_itself known.asked);
            alone = ap (λ (k : PassState). own known.given k.asked) same;
          });
    }

takes : (by : ℕ) (known : PassState) (other n : ℕ) (seen : List Question) → Joins AreKept by (keeper known) other (sitter n seen) (host known n seen) guest
takes by known other n seen s h here apart there =
    let mine = (h.fits by (keeper known) here).keeps refl in
    let w : View = host known n seen in
    let was = ⊎_elim
    (λ (t : (other ≡ by) × (w ≡ sitter n seen)). absurd (apart t.0))
    (λ (t : (other ≢ by) × (get_elem? s.views other ≡ some (sitter n seen))). t.1)
    (at_set s.views by other w (sitter n seen) there) in
    let seat = (h.fits other (sitter n seen) was).sits refl in
    let at = moved h.at n by in
    record {
      place = h.place;
      known = h.known;
      at = at;
      fits = all_set (Fits h.place h.known at) (set s.views by w) other guest
          (λ j u ne e. all_set (λ i v. i ≢ other → Fits h.place h.known at i v) s.views by w
          (λ i v _ e' ne'.
          let f = h.fits i v e' in
          still h.place h.known h.at i n by v f (elsewhere h.place h.known h.at other n i v seat.0 ne' f))
          (λ _. host_fits h.place h.known at known by n seen mine.0 mine.1 (moved_here h.at n by) seat.1)
          j u e ne)
          (guest_fits h.place h.known at other);
    }

leaves : (by : ℕ) (known : PassState) (n : ℕ) (seen : List Question) → Splits AreKept by (host known n seen) (keeper known) (sitter n seen)
leaves by known n seen s h here =
    let mine = h.fits by (host known n seen) here in
    let knows = mine.keeps refl in
    let seat = mine.sits refl in
    let views : List View = set s.views by (keeper known) in
    let at = moved h.at n (length views) in
    record {
      place = h.place;
      known = h.known;
      at = at;
      fits = all_snoc (Fits h.place h.known at) views (sitter n seen)
          (all_set (Fits h.place h.known at) s.views by (keeper known)
          (λ j u ne e. let f = h.fits j u e in still h.place h.known h.at j n (length views) u f (elsewhere h.place h.known h.at by n j u seat.0 ne f))
          (keeper_fits h.place h.known at known by knows.0 knows.1))
          (sitter_fits h.place h.known at (length views) n seen (moved_here h.at n (length views)) seat.1);
    }

adds : (slots by : ℕ) (known : PassState) (n : ℕ) (seen : List Question) (q : Question) → q.seat ≡ n
    → Allows AreKept slots by (host known n seen, []) 0 (λ m. either (m == 0) 0 m) (Added (step slots 0 0 0 (some q)) (host known n seen, []))
adds slots by known n seen q is s h len here fits =
    let mine = h.fits by (host known n seen) here in
    let knows = mine.keeps refl in
    let seat = mine.sits refl in
    let more : Question → PassState → PassState = λ p k. record k { asked = k.asked ++ p ∷ [] } in
    let after : Question → View = λ p. host (more p known) n (known.asked ++ p ∷ []) in
    let now : PassState = more q h.known in (
      after q,
      keeps,
      tt,
      record {
        place = h.place;
        known = now;
        at = h.at;
        fits = all_set (Fits h.place now h.at) s.views by (after q)
            (λ j u ne e.
            let f = h.fits j u e in
            with_more h.place h.known h.at now j by u knows.0 ne f
            (λ sits. others_stay h.known u.number u.seen q (λ same. elsewhere h.place h.known h.at by n j u seat.0 ne f sits (same ∙ is))))
            (host_fits h.place now h.at (more q known) by n (known.asked ++ q ∷ []) knows.0 (ap (more q) knows.1) seat.0 record {
              given = seat.1.given;
              away = seat.1.away;
              begins = subst (λ (k : PassState). Begins (known.asked ++ q ∷ []) (k.asked ++ q ∷ [])) knows.1 (begins_itself (known.asked ++ q ∷ []));
              alone = ap (λ (k : PassState). own n (k.asked ++ q ∷ [])) (sym knows.1);
            });
      },
      λ x said. (ap (λ p. (after p, [])) (some-injective _ _ said), subst (λ (k : PassState). IsSeat k n seen) (sym knows.1) seat.1),
    )

returns : (slots by : ℕ) (known : PassState) (n : ℕ) (seen : List Question)
    → Allows AreKept slots by (host known n seen, []) 0 (λ m. m) (Returned (step slots 0 0 0 none) (host known n seen, []))
returns slots by known n seen s h len here fits =
    let mine = h.fits by (host known n seen) here in
    let knows = mine.keeps refl in
    let seat = mine.sits refl in
    let more : PassState → PassState = λ k. record k { back = n ∷ k.back } in
    let now : PassState = more h.known in (
      keeper (more known),
      keeps,
      tt,
      record {
        place = h.place;
        known = now;
        at = h.at;
        fits = all_set (Fits h.place now h.at) s.views by (keeper (more known))
            (λ j u ne e.
            let f = h.fits j u e in
            with_more h.place h.known h.at now j by u knows.0 ne f
            (λ sits i. record {
              given = i.given;
              away = ap (λ (b : Bool). b || list_any (eqb u.number) h.known.back) (ne_eqb u.number n (elsewhere h.place h.known h.at by n j u seat.0 ne f sits)) ∙ i.away;
              begins = i.begins;
              alone = i.alone;
            }))
            (keeper_fits h.place now h.at (more known) by knows.0 (ap more knows.1));
      },
      (refl, subst (λ (k : PassState). IsSeat k n seen) (sym knows.1) seat.1),
    )

-- ---- the same, at what a pass is known to have
pub gives_as : (by : ℕ) (me : Me Question View) (known : PassState) → known.back ≡ [] → me ≡ (keeper known, [])
    → Splits AreKept by me.0 (keeper (record me.0.known { given = me.0.known.given + 1 })) (sitter me.0.known.given me.0.known.asked)
gives_as by me known empty is =
    subst (λ (m : Me Question View). Splits AreKept by m.0 (keeper (record m.0.known { given = m.0.known.given + 1 })) (sitter m.0.known.given m.0.known.asked)) (sym is)
    (gives by known empty)

pub takes_as : (by : ℕ) (me : Me Question View) (known : PassState) (other : ℕ) (them : Me Question View) (n : ℕ) (seen : List Question)
    → me ≡ (keeper known, []) → them ≡ (sitter n seen, []) → Joins AreKept by me.0 other them.0 (with_seat me.0 them.0) guest
takes_as by me known other them n seen is are =
    subst (λ (m : Me Question View). Joins AreKept by m.0 other them.0 (with_seat m.0 them.0) guest) (sym is)
    (subst (λ (t : Me Question View). Joins AreKept by (keeper known) other t.0 (with_seat (keeper known) t.0) guest) (sym are) (takes by known other n seen))

pub leaves_as : (by : ℕ) (me : Me Question View) (known : PassState) (n : ℕ) (seen : List Question) → me ≡ (host known n seen, [])
    → Splits AreKept by me.0 (keeper me.0.known) (sitter me.0.number me.0.seen)
leaves_as by me known n seen is =
    subst (λ (m : Me Question View). Splits AreKept by m.0 (keeper m.0.known) (sitter m.0.number m.0.seen)) (sym is) (leaves by known n seen)

pub adds_as : (slots by : ℕ) (me : Me Question View) (known : PassState) (n : ℕ) (seen : List Question) (q : Question) → q.seat ≡ n → me ≡ (host known n seen, [])
    → Allows AreKept slots by me 0 (λ m. either (m == 0) 0 m) (Added (step slots 0 0 0 (some q)) me)
adds_as slots by me known n seen q seat is =
    subst (λ (m : Me Question View). Allows AreKept slots by m 0 (λ n. either (n == 0) 0 n) (Added (step slots 0 0 0 (some q)) m)) (sym is)
    (adds slots by known n seen q seat)

pub returns_as : (slots by : ℕ) (me : Me Question View) (known : PassState) (n : ℕ) (seen : List Question) → me ≡ (host known n seen, [])
    → Allows AreKept slots by me 0 (λ m. m) (Returned (step slots 0 0 0 none) me)
returns_as slots by me known n seen is =
    subst (λ (m : Me Question View). Allows AreKept slots by m 0 (λ n. n) (Returned (step slots 0 0 0 none) m)) (sym is) (returns slots by known n seen)

-- ---- what a pass is known to have after a step
pub takes_is : (me m them t after : Me Question View) (known : PassState) (n : ℕ) (seen : List Question) → me ≡ (keeper known, []) → m ≡ (me.0, me.1)
    → them ≡ (sitter n seen, []) → t ≡ them → after ≡ (with_seat m.0 t.0, m.1) → after ≡ (host known n seen, [])
takes_is me m them t after known n seen is same are taken e = e ∙ (λ i. (with_seat ((same ∙ is) i).0 ((taken ∙ are) i).0, ((same ∙ is) i).1))

pub adds_is : (me after : Me Question View) (known : PassState) (n : ℕ) (seen : List Question) (q : Question) → me ≡ (host known n seen, [])
    → after ≡ (host (record me.0.known { asked = me.0.known.asked ++ q ∷ [] }) me.0.number (me.0.known.asked ++ q ∷ []), me.1)
    → after ≡ (host (record known { asked = known.asked ++ q ∷ [] }) n (known.asked ++ q ∷ []), [])
adds_is me after known n seen q is e =
    e ∙ ap (λ (m : Me Question View). (host (record m.0.known { asked = m.0.known.asked ++ q ∷ [] }) m.0.number (m.0.known.asked ++ q ∷ []), m.1)) is

pub keeper_again : (me : Me Question View) (known : PassState) → me ≡ (keeper known, []) → me ≡ (keeper me.0.known, [])
keeper_again me known is = is ∙ ap (λ (m : Me Question View). (keeper m.0.known, [])) (sym is)

pub sitter_again : (me : Me Question View) (n : ℕ) (seen : List Question) → me ≡ (sitter n seen, []) → me ≡ (sitter n me.0.seen, [])
sitter_again me n seen is = is ∙ ap (λ (m : Me Question View). (sitter n m.0.seen, [])) (sym is)
