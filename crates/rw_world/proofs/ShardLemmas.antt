-- What a shard keeps, as items are put and taken.
use Rattle.std.proofs.Common.{◌≡◌, ℕ, suc, ◌+◌, ◌<◌, ◌≤◌, ◌^◌, Bool, true, false, ◌&&◌, cond, eqb, List, [], ◌∷◌, ◌++◌, length, map, Option, None, Some, All, IfSome, refl, sym, ap, ◌∙◌, append_assoc, length-append, arith}
use Rattle.std.proofs.lemmas.List.{append-nil, map-append}
use Rattle.std.proofs.lemmas.Bool.Decides.{nat_tests}
use Rattle.std.proofs.lemmas.List.Elements.{All-append}
use Rattle.rw_batch.specs.declared.batch.BatchId.{BatchId}
use Rattle.rw_retry.specs.Judgements.{judgement_of}
use Rattle.rw_retry.specs.declared.judgement.Judgement.{Judgement}
use Rattle.rw_retry.specs.declared.judgement.Judgement.TheVariants.{Done, Again, Refused}
use Rattle.rw_plain_queue.specs.Items.{Placed, samples_in}
use Rattle.rw_plain_queue.specs.Queue.{Queue, put_in, front, next_item, after_take}
use Rattle.rw_plain_queue.specs.declared.item.Item.{Item}
use Rattle.rw_plain_queue.specs.declared.item.Item.TheVariants.{Sample, Flush, End}
use Rattle.rw_shard_core.specs.Shard.{Core, IsCore, is_empty, pending, last_sample, IsNext, AreInRow, MayTake, placed, take_item, is_answer, settle, reply}
use Rattle.rw_world.specs.inner.Held.{held_of, queued_of, samples_of, IsShard}
use Rattle.rw_plain_queue.proofs.shared.Histories.{samples_in-append}
use Rattle.rw_shard_core.proofs.shared.KeptLemmas.{AreInRow-push, All-one}

-- what was put, with All-one more item
pub put_more : (q q' : Queue) (x : Item) → q' ≡ record q { items = q.items ++ x ∷ [] } → samples_in (put_in q') ≡ samples_in (put_in q) ++ samples_in (x ∷ [])
put_more q q' x e =
    ap (λ (p : Queue). samples_in (put_in p)) e ∙ ap samples_in (sym (append_assoc q.taken q.items (x ∷ []))) ∙ samples_in-append (put_in q) (x ∷ [])

last_of-append : (xs : List Placed) (y : Placed) → last_sample (xs ++ y ∷ []) ≡ Some y
last_of-append [] y = refl
last_of-append (x ∷ []) y = refl
last_of-append (x ∷ w ∷ ws) y = last_of-append (w ∷ ws) y

-- the row of a beginning, and the step after it
next_after : (xs : List Placed) (x : Placed) (ys : List Placed) → AreInRow (xs ++ x ∷ ys) → IfSome (last_sample xs) (λ y. IsNext y x)
next_after [] x ys h = tt
next_after (y ∷ []) x ys h = h.0
next_after (y ∷ z ∷ zs) x ys h = next_after (z ∷ zs) x ys h.1

at_place : (P : Placed → Type 0) (xs : List Placed) (x : Placed) (ys : List Placed) → All P (xs ++ x ∷ ys) → P x
at_place P [] x ys h = h 0 x (omega arith)
at_place P (y ∷ xs) x ys h = at_place P xs x ys (λ k d lt. h (suc k) d (omega arith))

is_next_of : (o : Option Placed) (x : Placed) (n : ℕ) → IfSome o (λ (y : Placed). y.place.seq + 1 ≡ n) → IfSome o (λ (y : Placed). y.place.pos < x.place.pos) → x.place.seq ≡ n → IfSome o (λ y. IsNext y x)
is_next_of None x n a b e = tt
is_next_of (Some y) x n a b e = (e ∙ sym a, b)

-- a mark is put
pub put_mark_kept : (q q' : Queue) (c : Core) (count taken : ℕ) (x : Item) → IsShard q c count taken → q' ≡ record q { items = q.items ++ x ∷ [] } → samples_in (x ∷ []) ≡ [] →
    IsShard q' c count taken × (samples_in (put_in q') ≡ samples_in (put_in q))
put_mark_kept q q' c count taken x s e none =
    let same : samples_in (put_in q') ≡ samples_in (put_in q) = put_more q q' x e ∙ ap (λ zs. samples_in (put_in q) ++ zs) none ∙ append-nil (samples_in (put_in q)) in
    let kept : IsShard q' c count taken = record {
      not_closed = ap (λ (p : Queue). p.closed) e ∙ s.not_closed;
      not_killed = ap (λ (p : Queue). p.killed) e ∙ s.not_killed;
      alive = s.alive;
      taken_is = ap (λ (p : Queue). samples_in p.taken) e ∙ s.taken_is;
      counted = s.counted ∙ ap length (sym same);
      counted_taken = s.counted_taken;
      few = s.few;
      named = rw same s.named;
      in_row = rw same s.in_row;
      numbered = rw same s.numbered;
    } in
    (kept, same)

-- a sample is put
pub put_sample_kept : (q q' : Queue) (c : Core) (count taken : ℕ) (x : Item) (y : Placed) → IsShard q c count taken → q' ≡ record q { items = q.items ++ x ∷ [] } → samples_in (x ∷ []) ≡ y ∷ [] →
    y.place.epoch ≡ c.epoch → y.place.shard ≡ c.shard → y.place.seq ≡ count → count < 2 ^ 60 → IfSome (last_sample (samples_in (put_in q))) (λ (z : Placed). z.place.pos < y.place.pos) →
    IsShard q' c (count + 1) taken × (samples_in (put_in q') ≡ samples_in (put_in q) ++ y ∷ [])
put_sample_kept q q' c count taken x y s e sample ep sh seq few later =
    let old = samples_in (put_in q) in
    let same : samples_in (put_in q') ≡ old ++ y ∷ [] = put_more q q' x e ∙ ap (λ zs. old ++ zs) sample in
    let len : length (old ++ y ∷ []) ≡ count + 1 = length-append old (y ∷ []) ∙ ap (λ n. n + 1) (sym s.counted) in
    let next : IfSome (last_sample old) (λ z. IsNext z y) = is_next_of (last_sample old) y (length old) s.numbered later (seq ∙ s.counted) in
    let kept : IsShard q' c (count + 1) taken = record {
      not_closed = ap (λ (p : Queue). p.closed) e ∙ s.not_closed;
      not_killed = ap (λ (p : Queue). p.killed) e ∙ s.not_killed;
      alive = s.alive;
      taken_is = ap (λ (p : Queue). samples_in p.taken) e ∙ s.taken_is;
      counted = sym (ap length same ∙ len);
      counted_taken = s.counted_taken;
      few = omega arith;
      named = rw same (All-append (λ (z : Placed). (z.place.epoch ≡ c.epoch) × (z.place.shard ≡ c.shard)) old (y ∷ []) s.named (All-one (λ (z : Placed). (z.place.epoch ≡ c.epoch) × (z.place.shard ≡ c.shard)) y (ep, sh)));
      in_row = rw same (AreInRow-push old y s.in_row next);
      numbered = rw (same, last_of-append old y, len) (ap (λ n. n + 1) seq);
    } in
    (kept, same)

-- what is taken next was in front
front_is : (xs : List Item) (x : Item) → Some x ≡ front xs → (rest : List Item) × (xs ≡ x ∷ rest)
front_is [] x e = absurd (cc)
front_is (y ∷ ys) x e = (ys, cc)

after_is : (q : Queue) (x : Item) (rest : List Item) → q.killed ≡ false → q.items ≡ x ∷ rest → after_take q ≡ record q { taken = q.taken ++ x ∷ []; items = rest }
after_is q x rest k e = rw (k, e) refl

pub record Front (q q' : Queue) (x : Item) : Type 0 where
  pub items : q.items ≡ x ∷ q'.items
  pub taken : q'.taken ≡ q.taken ++ x ∷ []
  pub closed : q'.closed ≡ q.closed
  pub killed : q'.killed ≡ q.killed

pub taken_front : (q q' : Queue) (x : Item) → q.killed ≡ false → Some x ≡ next_item q → q' ≡ after_take q → Front q q' x
taken_front q q' x k n e =
    let f = front_is q.items x (rw k at n) in
    let a : q' ≡ record q { taken = q.taken ++ x ∷ []; items = f.0 } = e ∙ after_is q x f.0 k f.1 in
    record {
      items = f.1 ∙ ap (λ (p : Queue). x ∷ p.items) (sym a);
      taken = ap (λ (p : Queue). p.taken) a;
      closed = ap (λ (p : Queue). p.closed) a;
      killed = ap (λ (p : Queue). p.killed) a;
    }

-- what was put, if this All-one is the next to be taken
split_put : (q q' : Queue) (x : Item) → Front q q' x → samples_in (put_in q) ≡ samples_in q.taken ++ (samples_in (x ∷ []) ++ samples_in q'.items)
split_put q q' x f =
    samples_in-append q.taken q.items ∙ ap (λ ys. samples_in q.taken ++ samples_in ys) f.items ∙ ap (λ zs. samples_in q.taken ++ zs) (samples_in-append (x ∷ []) q'.items)

-- the core may take it
pub may_take : (q q' : Queue) (c : Core) (count taken : ℕ) (x : Item) → IsShard q c count taken → Front q q' x → MayTake x c
may_take q q' c count taken (Sample place t word labels) s f =
    let y = placed place t word labels.value in
    let all : samples_in (put_in q) ≡ c.taken ++ y ∷ samples_in q'.items =
    split_put q q' (Sample place t word labels) f ∙ ap (λ zs. zs ++ y ∷ samples_in q'.items) s.taken_is in
    let named = at_place (λ (z : Placed). (z.place.epoch ≡ c.epoch) × (z.place.shard ≡ c.shard)) c.taken y (samples_in q'.items) (rw all at s.named) in
    (named.0, named.1, next_after c.taken y (samples_in q'.items) (rw all at s.in_row))
may_take q q' c count taken Flush s f = tt
may_take q q' c count taken (End kind) s f = tt

record Stays (q q' : Queue) (c c' : Core) : Type 0 where
  taken : samples_in q'.taken ≡ c'.taken
  epoch : c'.epoch ≡ c.epoch
  shard : c'.shard ≡ c.shard
  killed : c'.killed ≡ c.killed

core_takes : (q q' : Queue) (c : Core) (count taken : ℕ) (x : Item) → IsShard q c count taken → Front q q' x →
    Stays q q' c (take_item x c) × (length (take_item x c).taken ≡ length c.taken + samples_of (queued_of x))
core_takes q q' c count taken (Sample place t word labels) s f =
    let y = placed place t word labels.value in (
      record {
        taken = ap samples_in f.taken ∙ samples_in-append q.taken (Sample place t word labels ∷ []) ∙ ap (λ zs. zs ++ y ∷ []) s.taken_is;
        epoch = refl;
        shard = refl;
        killed = refl;
      },
      length-append c.taken (y ∷ []),
    )
core_takes q q' c count taken Flush s f = (
  record {
    taken = ap samples_in f.taken ∙ samples_in-append q.taken (Flush ∷ []) ∙ append-nil (samples_in q.taken) ∙ s.taken_is;
    epoch = refl;
    shard = refl;
    killed = refl;
  },
  omega arith,
)
core_takes q q' c count taken (End kind) s f = (
  record {
    taken = ap samples_in f.taken ∙ samples_in-append q.taken (End kind ∷ []) ∙ append-nil (samples_in q.taken) ∙ s.taken_is;
    epoch = refl;
    shard = refl;
    killed = refl;
  },
  omega arith,
)

pub take_kept : (q q' : Queue) (c c' : Core) (count taken taken' : ℕ) (x : Item) → IsShard q c count taken → Front q q' x → put_in q' ≡ put_in q → c' ≡ take_item x c →
    taken' ≡ taken + samples_of (queued_of x) →
    (c'.epoch ≡ c.epoch) × (c'.shard ≡ c.shard) × IsShard q' c' count taken'
take_kept q q' c c' count taken taken' x s f put e n =
    let t = core_takes q q' c count taken x s f in
    let k = t.0 in
    let kept : IsShard q' (take_item x c) count taken' = record {
      not_closed = f.closed ∙ s.not_closed;
      not_killed = f.killed ∙ s.not_killed;
      alive = k.killed ∙ s.alive;
      taken_is = k.taken;
      counted = s.counted ∙ ap (λ ys. length (samples_in ys)) (sym put);
      counted_taken = n ∙ ap (λ m. m + samples_of (queued_of x)) s.counted_taken ∙ sym t.1;
      few = s.few;
      named = rw (put, k.epoch, k.shard) s.named;
      in_row = rw put s.in_row;
      numbered = rw put s.numbered;
    } in
    rw e (k.epoch, k.shard, kept)

-- the number of what was taken fits
pub taken_few : (q : Queue) (c : Core) (count taken : ℕ) → IsShard q c count taken → taken ≤ count
taken_few q c count taken s =
    let l : length (samples_in (put_in q)) ≡ length (samples_in q.taken) + length (samples_in q.items) = ap length (samples_in-append q.taken q.items) ∙ length-append (samples_in q.taken) (samples_in q.items) in
    let t : length (samples_in q.taken) ≡ length c.taken = ap length s.taken_is in
    omega (arith, s.counted, s.counted_taken)

-- the core changes, and what it has taken does not
pub core_kept : (q : Queue) (c c' : Core) (count taken : ℕ) → IsShard q c count taken → c'.killed ≡ c.killed → c'.taken ≡ c.taken → c'.epoch ≡ c.epoch → c'.shard ≡ c.shard → IsShard q c' count taken
core_kept q c c' count taken s k t ep sh = record {
  not_closed = s.not_closed;
  not_killed = s.not_killed;
  alive = k ∙ s.alive;
  taken_is = s.taken_is ∙ sym t;
  counted = s.counted;
  counted_taken = s.counted_taken ∙ ap length (sym t);
  few = s.few;
  named = rw (ep, sh) s.named;
  in_row = s.in_row;
  numbered = s.numbered;
}

settle_keeps : (j : Judgement) (c : Core) → ((settle j c).killed ≡ c.killed) × ((settle j c).taken ≡ c.taken) × ((settle j c).epoch ≡ c.epoch) × ((settle j c).shard ≡ c.shard)
settle_keeps Done c = (refl, refl, refl, refl)
settle_keeps Again c = (refl, refl, refl, refl)
settle_keeps Refused c = (refl, refl, refl, refl)

reply_keeps_if : (b : Bool) (j : Judgement) (c : Core) → let r = cond b (settle j c) c in (r.killed ≡ c.killed) × (r.taken ≡ c.taken) × (r.epoch ≡ c.epoch) × (r.shard ≡ c.shard)
reply_keeps_if true j c = settle_keeps j c
reply_keeps_if false j c = (refl, refl, refl, refl)

pub reply_kept : (q : Queue) (c c' : Core) (id : BatchId) (status count taken : ℕ) → IsShard q c count taken → c' ≡ reply id status c → (c'.epoch ≡ c.epoch) × (c'.shard ≡ c.shard) × IsShard q c' count taken
reply_kept q c c' id status count taken s e =
    let k = reply_keeps_if (is_answer id c) (judgement_of status) c in
    rw e (k.2, k.3, core_kept q c (reply id status c) count taken s k.0 k.1 k.2 k.3)

-- drained: everything was taken, and nothing waits
drained_by : (e m : Bool) (resolved waiting taken count : ℕ) → taken ≡ resolved + waiting → taken ≤ count → (m ≡ true → waiting ≡ 0) → (m ≡ false → 0 < waiting) →
    (e && (m && eqb taken count)) ≡ (e && eqb resolved count)
drained_by e true r w t n a b f g = let z = f refl in let same : t ≡ r = omega arith in rw same refl
drained_by e false r w t n a b f g = let z = g refl in let no : eqb r n ≡ false = grind (arith, nat_tests) in rw no refl

empty_length : {X : Type 0} (xs : List X) → (is_empty xs ≡ true → length xs ≡ 0) × (is_empty xs ≡ false → 0 < length xs)
empty_length [] = (λ e. refl, λ e. absurd (cc))
empty_length (x ∷ xs) = (λ e. absurd (cc), λ e. omega arith)

pub drained_is : (q : Queue) (c : Core) (count taken : ℕ) → IsShard q c count taken → IsCore c →
    (c.ended && (is_empty (pending c) && eqb taken count)) ≡ (c.ended && eqb (length c.resolved) (length (samples_in (put_in q))))
drained_is q c count taken s k =
    let l = empty_length (pending c) in
    let w : length c.taken ≡ length c.resolved + length (pending c) = ap length k.whole ∙ length-append c.resolved (pending c) in
    rw (← s.counted) (drained_by c.ended (is_empty (pending c)) (length c.resolved) (length (pending c)) taken count (s.counted_taken ∙ w) (taken_few q c count taken s) l.0 l.1)

-- what is seen of the shard with All-one more item
pub held_more : (q q' : Queue) (x : Item) (end_put : Bool) (c : Core) (ys : List Placed) → samples_in (put_in q') ≡ ys → q' ≡ record q { items = q.items ++ x ∷ [] } →
    held_of q' end_put c ≡ record { capacity = q.capacity; shard = record { put = ys; queue = map queued_of q.items ++ queued_of x ∷ []; end_put = end_put; core = c } }
held_more q q' x end_put c ys put e =
    let cap : q'.capacity ≡ q.capacity = ap (λ (p : Queue). p.capacity) e in
    let queue : map queued_of q'.items ≡ map queued_of q.items ++ queued_of x ∷ [] = ap (λ (p : Queue). map queued_of p.items) e ∙ map-append queued_of q.items (x ∷ []) in
    rw (put, cap, queue) refl
