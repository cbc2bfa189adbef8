-- Workers that ask the seats of one head have one receiver.
use Rattle.std.proofs.Common.{◌≡◌, ◌⊎◌, inl, inr, ℕ, zero, suc, ◌<◌, ◌≤◌, ◌==◌, Bool, true, List, [], ◌∷◌, ◌++◌, map, take, length, Option, Some, Ok, slice_get, refl, sym, ap, ◌∙◌, subst, length-append, arith}
use Rattle.std.proofs.lemmas.Bool.{eq-eqb, eqb-true}
use Rattle.std.proofs.lemmas.List.{length-map, take-append-le, take_all}
use Rattle.std.proofs.lemmas.Option.{same_Some, none-some, slice_get_within}
use Rattle.rw_plain_queue.specs.Items.{Placed}
use Rattle.rw_shard_core.specs.Shard.{body_of}
use Rattle.rw_worker.specs.Transcript.{Exchange}
use Rattle.rw_worker.specs.declared.transport.Reply.{Reply}
use Rattle.rw_head.specs.Head.{State}
use Rattle.rw_head.specs.Store.{Store}
use Rattle.rw_recv_head.specs.declared.question.Question.{Question}
use Rattle.rw_recv_head.specs.Seats.{Seated, own}
use Rattle.rw_machine.specs.Worlds.{Setup}
use Rattle.rw_machine.proofs.shared.Places.{get_some}
use Rattle.rw_restarts.specs.Arrivals.{Arrival, IsAnsweredBy}
use Rattle.rw_restarts.proofs.shared.ListLemmas.{map_get, get_map, get-first}
use Rattle.rw_simulation.specs.OneReceivers.{IsBefore}
use Rattle.rw_simulation.specs.SharedReceivers.{Coming, questions_of, questions_in, Carries, IsAnsweredAt, IsAnswered, arrival_of, head_behind, IsSharedReceiver}
use Rattle.rw_simulation.specs.Seatings.{Asks, AreAskedFor, AreSeated, SeatsAsOne}
use Rattle.rw_simulation.proofs.shared.Passed.{passed, IsAt, place, passes_at, passed_lt, one_place}
use Rattle.rw_simulation.proofs.Spans.{number_of, AreMade, number_lt, IsMadeFor, made_for, HasPart, part_of}
use Rattle.rw_simulation.proofs.SharedReceivers.{shares-as-one}

-- ---- lists
pub last_or : {X : Type 0} (xs : List X) (x : X) (n : ℕ) (y : X) → slice_get (xs ++ x ∷ []) n ≡ Some y → (slice_get xs n ≡ Some y) ⊎ ((n ≡ length xs) × (x ≡ y))
last_or [] x zero y e = inr (refl, same_Some x y e)
last_or [] x (suc n) y e = absurd (none-some y e)
last_or (z ∷ zs) x zero y e = inl e
last_or (z ∷ zs) x (suc n) y e = further (last_or zs x n y e)
  where
    further : (slice_get zs n ≡ Some y) ⊎ ((n ≡ length zs) × (x ≡ y)) → (slice_get zs n ≡ Some y) ⊎ ((suc n ≡ suc (length zs)) × (x ≡ y))
    further (inl h) = inl h
    further (inr h) = inr (ap suc h.0, h.1)

-- elements that are as is asked at their places
record Chosen {X : Type 0} (P : ℕ → X → Type 0) (n : ℕ) : Type 0 where
  all : List X
  count : length all ≡ n
  each : (i : ℕ) (x : X) → slice_get all i ≡ Some x → P i x

choose : {X : Type 0} (P : ℕ → X → Type 0) (n : ℕ) → ((i : ℕ) → i < n → (x : X) × P i x) → Chosen P n
choose P zero f = record { all = []; count = refl; each = λ i x e. absurd (none-some x e) }
choose {X} P (suc n) f = more (f n (omega arith)) (choose P n (λ i lt. f i (omega arith)))
  where
    more : (x : X) × P n x → Chosen P n → Chosen P (suc n)
    more last h = record {
      all = h.all ++ last.0 ∷ [];
      count = let l = length-append h.all (last.0 ∷ []) in let k = h.count in omega arith;
      each = λ i x e. by_place i x (last_or h.all last.0 i x e);
    }
      where
        by_place : (i : ℕ) (x : X) → (slice_get h.all i ≡ Some x) ⊎ ((i ≡ length h.all) × (last.0 ≡ x)) → P i x
        by_place i x (inl e) = h.each i x e
        by_place i x (inr (here, same)) = subst (λ j. P j x) (sym (here ∙ h.count)) (subst (P n) same last.1)

-- the questions of these are those
questions_are : (cs : List Coming) (qs : List Question) → length cs ≡ length qs → ((n : ℕ) (a : Coming) → slice_get cs n ≡ Some a → (q : Question) × (slice_get qs n ≡ Some q) × (a.question ≡ Some q)) → (n : ℕ) → questions_in (take n cs) ≡ take n qs
questions_are cs qs e each zero = refl
questions_are [] [] e each (suc n) = refl
questions_are [] (q ∷ qs) e each (suc n) = absurd (omega arith)
questions_are (a ∷ cs) [] e each (suc n) = absurd (omega arith)
questions_are (a ∷ cs) (q ∷ qs) e each (suc n) =
    let first = each 0 a refl in
    ap (λ (o : Option Question). questions_of o ++ questions_in (take n cs)) (first.2 ∙ sym first.1)
    ∙ ap (λ l. q ∷ l) (questions_are cs qs (omega arith) (λ m b at. each (suc m) b at) n)

-- the questions of each exchange, and how many they are
spans : (path : List ℕ) (limit : ℕ) (xs : List Exchange) (qs : List Question) → AreAskedFor path limit xs qs → (ns : List ℕ) × AreMade (Asks path limit) xs ns qs
spans path limit [] qs e = ([], e)
spans path limit (x ∷ xs) qs e = let h = spans path limit xs e.1 e.4 in (length e.0 ∷ h.0, (e.0, e.1, refl, e.2, e.3, h.1))

abbrev is_from : ℕ → Question → Bool
is_from seat q = q.seat == seat

module _ (c : Setup) (exchanges : ℕ → ℕ → List Exchange) (opening : State) (seats : List Seated) (store : Store) (h : AreSeated c exchanges opening seats store) where
  abbrev asked : List Question
  asked = h.gathered.asked

  abbrev HasSpans : ℕ → List ℕ → Type 0
  HasSpans k ns = (s : Seated) → slice_get seats k ≡ Some s → AreMade (Asks c.target.path c.max_body) (exchanges 0 k) ns (own s.number asked)

  spans_of : Chosen HasSpans (length seats)
  spans_of = choose HasSpans (length seats) one
    where
      one : (k : ℕ) → k < length seats → (ns : List ℕ) × HasSpans k ns
      one k lt =
          let s = get_some seats k lt in
          let p = spans c.target.path c.max_body (exchanges 0 k) (own s.0.number s.0.asked) (h.seat k s.0 s.1).asked in (
            p.0,
            λ t at. subst (λ (x : Seated). AreMade (Asks c.target.path c.max_body) (exchanges 0 k) p.0 (own x.number asked)) (same_Some s.0 t (sym s.1 ∙ at))
                (subst (λ (qs : List Question). AreMade (Asks c.target.path c.max_body) (exchanges 0 k) p.0 qs) (sym (h.gathered.seen k s.0 s.1).1) p.1),
          )

  -- the n-th question came as this
  record IsComing (n : ℕ) (a : Coming) : Type 0 where
    q : Question
    at : slice_get asked n ≡ Some q
    s : Seated
    seat : slice_get seats a.shard ≡ Some s
    own_is : s.number ≡ q.seat
    epoch_is : a.epoch ≡ 0
    ns : List ℕ
    parts : slice_get spans_of.all a.shard ≡ Some ns
    number_is : a.number ≡ number_of ns (passed (is_from s.number) asked n)
    status_is : q.status ≡ a.status
    question_is : a.question ≡ Some q
    made : IsMadeFor (Asks c.target.path c.max_body) (exchanges 0 a.shard) ns (passed (is_from s.number) asked n) q

  is_own : (s : Seated) (q : Question) → s.number ≡ q.seat → is_from s.number q ≡ true
  is_own s q e = eq-eqb q.seat s.number (sym e)

  coming : (n : ℕ) → n < length asked → (a : Coming) × IsComing n a
  coming n lt =
      let q = get_some asked n lt in
      let w = h.gathered.each n q.0 q.1 in
      let ns = get_some spans_of.all w.0 (subst (λ m. w.0 < m) (sym spans_of.count) (slice_get_within seats w.0 w.1 w.2)) in
      let j = passed (is_from w.1.number) asked n in (
        record { epoch = 0; shard = w.0; number = number_of ns.0 j; status = q.0.status; question = Some q.0 },
        record {
          q = q.0;
          at = q.1;
          s = w.1;
          seat = w.2;
          own_is = w.3;
          epoch_is = refl;
          ns = ns.0;
          parts = ns.1;
          number_is = refl;
          status_is = refl;
          question_is = refl;
          made = made_for (Asks c.target.path c.max_body) (exchanges 0 w.0) ns.0 (own w.1.number asked) j q.0 (spans_of.each w.0 ns.0 ns.1 w.1 w.2) (passes_at (is_from w.1.number) asked n q.0 q.1 (is_own w.1 q.0 w.3));
        },
      )

  comings : Chosen IsComing (length asked)
  comings = choose IsComing (length asked) coming

  abbrev arrivals : List Arrival
  arrivals = map arrival_of comings.all

  -- its number is that of its question, among those of its seat
  numbered : (n : ℕ) (a : Coming) → IsComing n a → (k : ℕ) (s : Seated) (ns : List ℕ) → a.shard ≡ k → slice_get seats k ≡ Some s → slice_get spans_of.all k ≡ Some ns → a.number ≡ number_of ns (passed (is_from s.number) asked n)
  numbered n a i k s ns e seat parts =
      i.number_is
      ∙ ap (λ (t : Seated). number_of i.ns (passed (is_from t.number) asked n)) (same_Some i.s s (sym i.seat ∙ ap (slice_get seats) e ∙ seat))
      ∙ ap (λ (ms : List ℕ). number_of ms (passed (is_from s.number) asked n)) (same_Some i.ns ns (sym i.parts ∙ ap (slice_get spans_of.all) e ∙ parts))

  -- an exchange that was answered has come
  record HasCome (k i : ℕ) (r : Reply) (s : Seated) (ns : List ℕ) : Type 0 where
    n : ℕ
    a : Coming
    at : slice_get comings.all n ≡ Some a
    is : IsComing n a
    shard_is : a.shard ≡ k
    status_is : a.status ≡ r.status
    number_is : number_of ns (passed (is_from s.number) asked n) ≡ i

  has_come : (k i : ℕ) (x : Exchange) (r : Reply) (s : Seated) (ns : List ℕ) → slice_get (exchanges 0 k) i ≡ Some x → x.answer ≡ Ok r → slice_get seats k ≡ Some s → slice_get spans_of.all k ≡ Some ns → HasCome k i r s ns
  has_come k i x r s ns at ok seat parts = record {
    n = p.n;
    a = a.0;
    at = a.1;
    is = is;
    shard_is = h.gathered.apart a.0.shard k is.s s is.seat seat (is.own_is ∙ ap (λ (y : Question). y.seat) same ∙ from_it);
    status_is = sym is.status_is ∙ ap (λ (y : Question). y.status) same ∙ t.3;
    number_is = ap (number_of ns) p.count ∙ f.2;
  }
    where
      part : HasPart (Asks c.target.path c.max_body) ns (own s.number asked) i x
      part = part_of (Asks c.target.path c.max_body) (exchanges 0 k) ns (own s.number asked) i x (spans_of.each k ns parts s seat) at

      t : (m : ℕ) × (q : Question) × (slice_get part.mine m ≡ Some q) × (q.status ≡ r.status)
      t = part.made.told r ok

      f : (j : ℕ) × (slice_get (own s.number asked) j ≡ Some t.1) × (number_of ns j ≡ i)
      f = part.each t.0 t.1 t.2

      p : IsAt (is_from s.number) asked f.0 t.1
      p = place (is_from s.number) asked f.0 t.1 f.1

      from_it : t.1.seat ≡ s.number
      from_it = eqb-true t.1.seat s.number p.passes

      a : (b : Coming) × (slice_get comings.all p.n ≡ Some b)
      a = get_some comings.all p.n (subst (λ m. p.n < m) (sym comings.count) (slice_get_within asked p.n t.1 p.at))

      is : IsComing p.n a.0
      is = comings.each p.n a.0 a.1

      same : is.q ≡ t.1
      same = same_Some is.q t.1 (sym is.at ∙ p.at)

  -- what was asked before it
  before : (n : ℕ) → questions_in (take n comings.all) ≡ take n asked
  before n = questions_are comings.all asked comings.count (λ m a at. let i = comings.each m a at in (i.q, i.at, i.question_is)) n

  -- a seat knew what had been asked when it asked
  answered_at : (n : ℕ) (a : Coming) → (i : IsComing n a) → IsAnsweredAt opening (take n asked) i.q
  answered_at n a i = subst (λ l. IsAnsweredAt opening l i.q) (ap (λ m. take m i.s.asked) here ∙ first n (subst (λ m. m < length i.s.asked) here (slice_get_within i.s.asked p.n i.q p.at))) ((h.seat a.shard i.s i.seat).answered p.n i.q p.at (sym i.own_is))
    where
      known : (more : List Question) × (asked ≡ i.s.asked ++ more)
      known = (h.gathered.seen a.shard i.s i.seat).0

      is : is_from i.s.number i.q ≡ true
      is = is_own i.s i.q i.own_is

      p : IsAt (is_from i.s.number) i.s.asked (passed (is_from i.s.number) asked n) i.q
      p = place (is_from i.s.number) i.s.asked (passed (is_from i.s.number) asked n) i.q
          (ap (λ l. slice_get l (passed (is_from i.s.number) asked n)) (sym (h.gathered.seen a.shard i.s i.seat).1) ∙ passes_at (is_from i.s.number) asked n i.q i.at is)

      first : (m : ℕ) → m < length i.s.asked → take m i.s.asked ≡ take m asked
      first m lt = sym (ap (take m) known.1 ∙ take-append-le m i.s.asked known.0 (omega arith))

      here : p.n ≡ n
      here = one_place (is_from i.s.number) asked p.n n i.q i.q (ap (λ l. slice_get l p.n) known.1 ∙ get-first i.s.asked known.0 p.n i.q p.at) i.at is is
          (ap (λ l. length (own i.s.number l)) (sym (first p.n (slice_get_within i.s.asked p.n i.q p.at))) ∙ p.count)

  carried : (q : Question) (batch : List Placed) → (q.body ≡ body_of batch) × (length (body_of batch) ≤ c.max_body) → Carries c q.body batch
  carried q batch b = (b.0, subst (λ (l : List ℕ). length l ≤ c.max_body) (sym b.0) b.1)

  answers : (n : ℕ) (a : Coming) → slice_get comings.all n ≡ Some a → (x : Exchange) × (slice_get (exchanges a.epoch a.shard) a.number ≡ Some x) × IsAnswered c opening (questions_in (take n comings.all)) x.request a.status a.question
  answers n a at =
      let i = comings.each n a at in (
        i.made.x,
        ap (λ (e : ℕ). slice_get (exchanges e a.shard) a.number) i.epoch_is ∙ ap (slice_get (exchanges 0 a.shard)) i.number_is ∙ i.made.at,
        subst (λ (o : Option Question). IsAnswered c opening (questions_in (take n comings.all)) i.made.x.request a.status o) (sym i.question_is) (
          subst (λ l. IsAnsweredAt opening l i.q) (sym (before n)) (answered_at n a i),
          i.status_is,
          λ batch is. carried i.q batch (i.made.made.carries i.made.k i.q i.made.among c.target.host (body_of batch) h.host is),
        ),
      )

  -- the exchange of worker k that was answered, among the arrivals
  answered_by : (m k i : ℕ) (r : Reply) (s : Seated) (ns : List ℕ) → slice_get seats k ≡ Some s → slice_get spans_of.all k ≡ Some ns → (f : HasCome k i r s ns) → f.n < m → IsAnsweredBy arrivals m 0 k i r.status
  answered_by m k i r s ns seat parts f lt = record {
    at = f.n;
    early = lt;
    a = arrival_of f.a;
    is = get_map arrival_of comings.all f.n f.a f.at;
    epoch_is = f.is.epoch_is;
    shard_is = f.shard_is;
    number_is = numbered f.n f.a f.is k s ns f.shard_is seat parts ∙ f.number_is;
    status_is = f.status_is;
  }

  -- the seat of a worker that made an exchange, and how its questions are divided
  record IsWorker (e k : ℕ) : Type 0 where
    epoch_is : e ≡ 0
    s : Seated
    seat : slice_get seats k ≡ Some s
    ns : List ℕ
    parts : slice_get spans_of.all k ≡ Some ns

  worker : (e k i : ℕ) (x : Exchange) → slice_get (exchanges e k) i ≡ Some x → IsWorker e k
  worker e k i x at =
      let a = h.alone e k i x at in
      let s = get_some seats k a.1 in
      let ns = get_some spans_of.all k (subst (λ m. k < m) (sym spans_of.count) a.1) in
      record { epoch_is = a.0; s = s.0; seat = s.1; ns = ns.0; parts = ns.1 }

  in_epoch : (e k i : ℕ) (x : Exchange) → e ≡ 0 → slice_get (exchanges e k) i ≡ Some x → slice_get (exchanges 0 k) i ≡ Some x
  in_epoch e k i x is at = ap (λ (d : ℕ). slice_get (exchanges d k) i) (sym is) ∙ at

  all : (e k i : ℕ) (x : Exchange) (r : Reply) → slice_get (exchanges e k) i ≡ Some x → x.answer ≡ Ok r → IsAnsweredBy arrivals (length arrivals) e k i r.status
  all e k i x r at ok =
      let w = worker e k i x at in
      let f = has_come k i x r w.s w.ns (in_epoch e k i x w.epoch_is at) ok w.seat w.parts in
      subst (λ (d : ℕ). IsAnsweredBy arrivals (length arrivals) d k i r.status) (sym w.epoch_is)
      (answered_by (length arrivals) k i r w.s w.ns w.seat w.parts f (subst (λ m. f.n < m) (sym (length-map comings.all arrival_of)) (slice_get_within comings.all f.n f.a f.at)))

  later : (n : ℕ) (a : Arrival) (e k i : ℕ) (x : Exchange) (r : Reply) → slice_get arrivals n ≡ Some a → slice_get (exchanges e k) i ≡ Some x → x.answer ≡ Ok r → IsBefore e k i a → IsAnsweredBy arrivals n e k i r.status
  later n a e k i x r came at ok (inl early) = absurd (let z = b_is.epoch_is in let same = ap (λ (y : Arrival). y.epoch) b.2 in omega arith)
    where
      b : (y : Coming) × (slice_get comings.all n ≡ Some y) × (arrival_of y ≡ a)
      b = map_get arrival_of comings.all n a came

      b_is : IsComing n b.0
      b_is = comings.each n b.0 b.1
  later n a e k i x r came at ok (inr (epoch_is, shard_is, lt)) =
      subst (λ (d : ℕ). IsAnsweredBy arrivals n d k i r.status) (sym w.epoch_is) (answered_by n k i r w.s w.ns w.seat w.parts f before_it)
    where
      b : (y : Coming) × (slice_get comings.all n ≡ Some y) × (arrival_of y ≡ a)
      b = map_get arrival_of comings.all n a came

      w : IsWorker e k
      w = worker e k i x at

      f : HasCome k i r w.s w.ns
      f = has_come k i x r w.s w.ns (in_epoch e k i x w.epoch_is at) ok w.seat w.parts

      number : number_of w.ns (passed (is_from w.s.number) asked n) ≡ a.number
      number = sym (numbered n b.0 (comings.each n b.0 b.1) k w.s w.ns (ap (λ (y : Arrival). y.shard) b.2 ∙ sym shard_is) w.seat w.parts) ∙ ap (λ (y : Arrival). y.number) b.2

      before_it : f.n < n
      before_it = passed_lt (is_from w.s.number) asked f.n n (number_lt w.ns (passed (is_from w.s.number) asked f.n) (passed (is_from w.s.number) asked n) (let x = f.number_is in let y = number in omega arith))

  shared : IsSharedReceiver c exchanges opening comings.all
  shared = record {
    empty_is = h.empty_is;
    limits_are = h.limits_are;
    answers = answers;
    told = record { later = later; all = all };
  }

  whole : asked ≡ questions_in comings.all
  whole = sym (take_all (length asked) asked (omega arith)) ∙ sym (before (length asked)) ∙ ap questions_in (take_all (length asked) comings.all (let l = comings.count in omega arith))

pub seats-as-one : (c : Setup) (exchanges : ℕ → ℕ → List Exchange) (opening : State) (seats : List Seated) (store : Store) → SeatsAsOne c exchanges opening seats store
seats-as-one c exchanges opening seats store calm h =
    let one = shares-as-one c exchanges opening (comings c exchanges opening seats store h).all calm (shared c exchanges opening seats store h) in
    (arrivals c exchanges opening seats store h, head_behind opening (comings c exchanges opening seats store h).all, one.0, one.1 seats store h.gathered (whole c exchanges opening seats store h))
