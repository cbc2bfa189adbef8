-- Placements with one sample or one epoch more.
use Rattle.std.proofs.Common.{◌≡◌, ◌≢◌, ◌⊎◌, inl, inr, ℕ, zero, suc, ◌+◌, ◌<◌, false, List, [], ◌∷◌, ◌++◌, length, map, Some, None, cond, refl, sym, ap, ◌∙◌, subst, append_assoc, append-nil, length-append, add-zero, zero-add, arith}
use Rattle.std.specs.Prelude.{◌==◌, set, slice_get}
use Rattle.std.proofs.lemmas.List.{length-set}
use Rattle.std.proofs.lemmas.List.Elements.{filter-append}
use Rattle.std.proofs.lemmas.Bool.{eq-eqb, eqb-true, false_from_ne_true}
use Rattle.std.proofs.lemmas.Option.{same_Some}
use Rattle.rw_worker.specs.Setups.{WorkerSetup}
use Rattle.rw_plain_queue.specs.Items.{Placed, samples_in}
use Rattle.rw_plain_queue.specs.declared.item.Kind.TheVariants.{Reshard}
use Rattle.rw_fleet.specs.Work.{AreEndedBy}
use Rattle.rw_fleet.specs.ShardHistories.{ShardHistory, put_into, AreSame, AreFresh, IsPut, put_as}
use Rattle.rw_series_cache.specs.declared.sample.RoutedSample.{RoutedSample}
use Rattle.rw_fleet.proofs.shared.LaneLemmas.{same_length}
use Rattle.rw_sender.specs.Feeders.{sent_by}
use Rattle.rw_sender.specs.Logs.{Sent}
use Rattle.rw_sender.specs.Placement.{as_sent, samples_put, shard_of, of_shard, IsExtended, AreKept, IsDealt, Places, joined_epochs, IsShardCount, AreTurned, IsPlacing, ArePlaced}

same_get : (ps qs : List ShardHistory) (k : ℕ) (q : ShardHistory) → AreSame ps qs → slice_get qs k ≡ Some q → (p : ShardHistory) × (slice_get ps k ≡ Some p) × (q.setup ≡ p.setup) × (samples_put q ≡ samples_put p)
same_get [] [] k q h e = absurd (let n : None ≡ Some q = e in cc)
same_get [] (y ∷ ys) k q h e = absurd h
same_get (x ∷ xs) [] k q h e = absurd h
same_get (x ∷ xs) (y ∷ ys) zero q h e =
    let is : y ≡ q = same_Some y q e in (x, refl, ap (λ (f : ShardHistory). f.setup) (sym is) ∙ h.0, ap (λ (f : ShardHistory). samples_put f) (sym is) ∙ ap (map as_sent) h.1)
same_get (x ∷ xs) (y ∷ ys) (suc k) q h e = same_get xs ys k q h.2 e

kept_one : (q : ShardHistory) → IsExtended q q
kept_one q = (refl, [], sym (append-nil (samples_in q.put)))

pub kept_self : (qs : List ShardHistory) → AreKept qs qs
kept_self [] = tt
kept_self (q ∷ qs) = (kept_one q, kept_self qs)

kept_both : (p q r : ShardHistory) → IsExtended p q → IsExtended q r → IsExtended p r
kept_both p q r h g = (g.0 ∙ h.0, h.1 ++ g.1, g.2 ∙ ap (λ l. l ++ g.1) h.2 ∙ append_assoc (samples_in p.put) h.1 g.1)

pub kept_on : (ps qs rs : List ShardHistory) → AreKept ps qs → AreKept qs rs → AreKept ps rs
kept_on [] [] rs h g = g
kept_on [] (q ∷ qs) rs h g = absurd h
kept_on (p ∷ ps) [] rs h g = absurd h
kept_on (p ∷ ps) (q ∷ qs) [] h g = absurd g
kept_on (p ∷ ps) (q ∷ qs) (r ∷ rs) h g = (kept_both p q r h.0 g.0, kept_on ps qs rs h.1 g.1)

-- one shard has more
kept_set : (qs : List ShardHistory) (k : ℕ) (was now : ShardHistory) → slice_get qs k ≡ Some was → IsExtended was now → AreKept qs (set qs k now)
kept_set [] k was now at h = tt
kept_set (q ∷ qs) zero was now at h = (subst (λ p. IsExtended p now) (sym (same_Some q was at)) h, kept_self qs)
kept_set (q ∷ qs) (suc k) was now at h = (kept_one q, kept_set qs k was now at h)

pub kept_put : (k : ℕ) (x : RoutedSample) (old new : List ShardHistory) → IsPut k x old new → AreKept old new
kept_put k x old new put = subst (λ qs. AreKept old qs) (sym put.is) (kept_set old k put.was put.now put.at (put.setup, put_as put.was x ∷ [], put.put))

same_nil : (ps qs : List ShardHistory) → AreSame ps qs → qs ≡ [] → ps ≡ []
same_nil [] qs h e = refl
same_nil (p ∷ ps) qs h e = absurd (subst (λ l. AreSame (p ∷ ps) l) e h)

-- the same shards with the same samples
dealt_same : (e : ℕ) (ps qs : List ShardHistory) (s : List Sent) → IsDealt e ps s → AreSame ps qs → IsDealt e qs s
dealt_same e ps qs s d h = record {
  each = λ k q at.
      let p = same_get ps qs k q h at in
      let was = d.each k p.0 p.1 in
      (ap (λ (x : WorkerSetup). x.queue.epoch) p.2 ∙ was.0, ap (λ (x : WorkerSetup). x.queue.shard) p.2 ∙ was.1, p.3 ∙ was.2 ∙ ap (λ n. of_shard n k s) (sym (same_length ps qs h)));
  none = λ is. d.none (same_nil ps qs h is);
}

-- one epoch more
places_push : (e k : ℕ) (es : List (List ShardHistory)) (qs : List ShardHistory) (s t : List Sent) → Places e es s → k ≡ e + length es → IsDealt k qs t → Places e (es ++ qs ∷ []) (s ++ t)
places_push e k [] qs s t h is d = (t, [], ap (λ l. l ++ t) h ∙ sym (append-nil t), subst (λ j. IsDealt j qs t) (is ∙ add-zero e) d, refl)
places_push e k (x ∷ xs) qs s t h is d =
    (h.0, h.1 ++ t, ap (λ l. l ++ t) h.2 ∙ append_assoc h.0 h.1 t, h.3, places_push (suc e) k xs qs h.1 t h.4 (omega arith) d)

pub joined_push : (es : List (List ShardHistory)) (qs : List ShardHistory) → joined_epochs (es ++ qs ∷ []) ≡ joined_epochs es ++ qs
joined_push [] qs = append-nil qs
joined_push (x ∷ xs) qs = ap (λ l. x ++ l) (joined_push xs qs) ∙ sym (append_assoc x (joined_epochs xs) qs)

turned_push : (es : List (List ShardHistory)) (qs : List ShardHistory) → AreTurned es → IsShardCount (length qs) → AreEndedBy Reshard (map put_into qs) → AreTurned (es ++ qs ∷ [])
turned_push [] qs t n by = (n, by, tt)
turned_push (x ∷ xs) qs t n by = (t.0, t.1, turned_push xs qs t.2 n by)

-- all shards of the epoch ended: it is one of the epochs
pub whole_is : (e : ℕ) (ended current closed all : List ShardHistory) (s : List Sent) → (h : IsPlacing e ended current s) → all ≡ ended ++ closed → all ≡ joined_epochs (h.epochs ++ closed ∷ [])
whole_is e ended current closed all s h is = is ∙ ap (λ l. l ++ closed) h.ended_is ∙ sym (joined_push h.epochs closed)

pub whole_placed : (e : ℕ) (ended current closed : List ShardHistory) (s : List Sent) → (h : IsPlacing e ended current s) → AreSame current closed → Places 0 (h.epochs ++ closed ∷ []) s
whole_placed e ended current closed s h same =
    subst (Places 0 (h.epochs ++ closed ∷ [])) (sym h.all) (places_push 0 e h.epochs closed h.before h.fresh h.placed (h.numbered ∙ sym (zero-add (length h.epochs))) (dealt_same e current closed h.fresh h.dealt same))

pub placing_whole : (e : ℕ) (ended current closed all : List ShardHistory) (s : List Sent) → IsPlacing e ended current s → AreSame current closed → all ≡ ended ++ closed → ArePlaced all s
placing_whole e ended current closed all s h same is = (h.epochs ++ closed ∷ [], whole_is e ended current closed all s h is, whole_placed e ended current closed s h same)

-- and the next epoch has no shard yet
pub placing_closed : (e more : ℕ) (ended current closed all : List ShardHistory) (s : List Sent) → IsPlacing e ended current s → AreSame current closed → all ≡ ended ++ closed → IsShardCount (length current) → AreEndedBy Reshard (map put_into closed) → more ≡ e + 1
    → IsPlacing more all [] s
placing_closed e more ended current closed all s h same is number by next = record {
  epochs = h.epochs ++ closed ∷ [];
  ended_is = whole_is e ended current closed all s h is;
  numbered = let a = h.numbered in omega (arith, length-append h.epochs (closed ∷ []));
  turned = turned_push h.epochs closed h.turned (subst IsShardCount (sym (same_length current closed same)) number) by;
  before = s;
  fresh = [];
  all = sym (append-nil s);
  placed = whole_placed e ended current closed s h same;
  dealt = record { each = λ k q at. absurd (let at' : None ≡ Some q = at in cc); none = λ _. refl };
}

-- the next epoch's shards, with nothing put
pub placing_opened : (e : ℕ) (ended current : List ShardHistory) (s : List Sent) → IsPlacing e ended [] s → AreFresh e current → IsPlacing e ended current s
placing_opened e ended current s h new =
    let none = h.dealt.none refl in record {
      epochs = h.epochs;
      ended_is = h.ended_is;
      numbered = h.numbered;
      turned = h.turned;
      before = h.before;
      fresh = h.fresh;
      all = h.all;
      placed = h.placed;
      dealt = record {
        each = λ k q at. let is = new k q at in (is.0, is.1, ap (λ items. map as_sent (samples_in items)) is.2 ∙ ap (λ l. of_shard (length current) k l) (sym none));
        none = λ _. none;
      };
    }

module _ {A : Type 0} where
  pub get_set : (xs : List A) (k j : ℕ) (y r : A) → slice_get (set xs k y) j ≡ Some r → ((j ≡ k) × (y ≡ r)) ⊎ ((j ≢ k) × (slice_get xs j ≡ Some r))
  get_set [] k j y r e = absurd (let e' : None ≡ Some r = e in cc)
  get_set (x ∷ xs) zero zero y r e = inl (refl, cc)
  get_set (x ∷ xs) zero (suc j) y r e = inr ((λ h. absurd (omega arith)), e)
  get_set (x ∷ xs) (suc k) zero y r e = inr ((λ h. absurd (omega arith)), e)
  get_set (x ∷ xs) (suc k) (suc j) y r e = elim (get_set xs k j y r e) [ inl h ↦ inl (ap suc h.0, h.1) | inr h ↦ inr ((λ e'. h.0 (omega arith)), h.1) ]

  pub get_some : (xs : List A) (k : ℕ) → k < length xs → (x : A) × (slice_get xs k ≡ Some x)
  get_some [] k lt = absurd (omega arith)
  get_some (x ∷ xs) zero lt = (x, refl)
  get_some (x ∷ xs) (suc k) lt = get_some xs k (omega arith)

  set_some : (xs : List A) (k : ℕ) (y x : A) → slice_get xs k ≡ Some x → set xs k y ≡ [] → ⊥
  set_some [] k y x at e = let at' : None ≡ Some x = at in absurd cc
  set_some (z ∷ zs) zero y x at e = absurd cc
  set_some (z ∷ zs) (suc k) y x at e = absurd cc

not_eqb : (a b : ℕ) → a ≢ b → (a == b) ≡ false
not_eqb a b not = false_from_ne_true (a == b) (λ t. not (eqb-true a b t))

shard_mine : (m j : ℕ) (s : List Sent) (x : Sent) → shard_of m x.series ≡ j → of_shard m j (s ++ x ∷ []) ≡ of_shard m j s ++ x ∷ []
shard_mine m j s x is = filter-append (λ y. shard_of m y.series == j) s (x ∷ []) ∙ ap (λ b. of_shard m j s ++ cond b (x ∷ []) []) (eq-eqb (shard_of m x.series) j is)

shard_other : (m j : ℕ) (s : List Sent) (x : Sent) → shard_of m x.series ≢ j → of_shard m j (s ++ x ∷ []) ≡ of_shard m j s
shard_other m j s x not = filter-append (λ y. shard_of m y.series == j) s (x ∷ []) ∙ ap (λ b. of_shard m j s ++ cond b (x ∷ []) []) (not_eqb (shard_of m x.series) j not) ∙ append-nil (of_shard m j s)

-- one sample more, in its shard's queue
pub dealt_put : (e k : ℕ) (qs : List ShardHistory) (s : List Sent) (q q' : ShardHistory) (x : Sent) → IsDealt e qs s → slice_get qs k ≡ Some q → k ≡ shard_of (length qs) x.series → q'.setup ≡ q.setup
    → samples_put q' ≡ samples_put q ++ x ∷ [] → IsDealt e (set qs k q') (s ++ x ∷ [])
dealt_put e k qs s q q' x d at here same put =
    let len = length-set qs k q' in record {
      each = λ j r there. elim (get_set qs k j q' r there) [
        | inl h ↦
            let was = d.each k q at in
            let is = sym h.1 in (
              ap (λ (f : ShardHistory). f.setup.queue.epoch) is ∙ ap (λ (u : WorkerSetup). u.queue.epoch) same ∙ was.0,
              ap (λ (f : ShardHistory). f.setup.queue.shard) is ∙ ap (λ (u : WorkerSetup). u.queue.shard) same ∙ was.1 ∙ sym h.0,
              ap (λ (f : ShardHistory). samples_put f) is ∙ put ∙ ap (λ l. l ++ x ∷ []) was.2 ∙ ap (λ i. of_shard (length qs) i s ++ x ∷ []) (sym h.0) ∙ sym (shard_mine (length qs) j s x (sym here ∙ sym h.0)) ∙ ap (λ m. of_shard m j (s ++ x ∷ [])) (sym len),
            )
        | inr h ↦
            let was = d.each j r h.1 in
            (was.0, was.1, was.2 ∙ sym (shard_other (length qs) j s x (λ is. h.0 (sym is ∙ sym here))) ∙ ap (λ m. of_shard m j (s ++ x ∷ [])) (sym len))
      ];
      none = λ is. absurd (set_some qs k q' q at is);
    }

map_push : (xs : List Placed) (x : Placed) → map as_sent (xs ++ x ∷ []) ≡ map as_sent xs ++ as_sent x ∷ []
map_push [] x = refl
map_push (y ∷ ys) x = ap (λ l. as_sent y ∷ l) (map_push ys x)

-- one sample more, which was put into the queue of its series' shard
pub placing_put : (e k : ℕ) (ended qs after : List ShardHistory) (s : List Sent) (x : RoutedSample) (sample : Sent) → IsPlacing e ended qs s → IsPut k x qs after → sample ≡ sent_by x
    → k ≡ shard_of (length qs) x.series → IsPlacing e ended after (s ++ sample ∷ [])
placing_put e k ended qs after s x sample h put is here =
    let x' : Sent = sent_by x in
    let more : samples_put put.now ≡ samples_put put.was ++ x' ∷ [] = ap (map as_sent) put.put ∙ map_push (samples_in put.was.put) (put_as put.was x) in
    let dealt = dealt_put e k qs h.fresh put.was put.now x' h.dealt put.at here put.setup more in
    subst (λ (y : Sent). IsPlacing e ended after (s ++ y ∷ [])) (sym is) (record {
      epochs = h.epochs;
      ended_is = h.ended_is;
      numbered = h.numbered;
      turned = h.turned;
      before = h.before;
      fresh = h.fresh ++ x' ∷ [];
      all = ap (λ l. l ++ x' ∷ []) h.all ∙ append_assoc h.before h.fresh (x' ∷ []);
      placed = h.placed;
      dealt = subst (λ c. IsDealt e c (h.fresh ++ x' ∷ [])) (sym put.is) dealt;
    })

-- the shards at work are the same, with the same samples
pub placing_same : (e : ℕ) (ended qs after : List ShardHistory) (s : List Sent) → IsPlacing e ended qs s → AreSame qs after → IsPlacing e ended after s
placing_same e ended qs after s h same = record {
  epochs = h.epochs;
  ended_is = h.ended_is;
  numbered = h.numbered;
  turned = h.turned;
  before = h.before;
  fresh = h.fresh;
  all = h.all;
  placed = h.placed;
  dealt = dealt_same e qs after h.fresh h.dealt same;
}

-- nothing was placed yet
pub placing_begun : (ended current : List ShardHistory) → ended ≡ [] → current ≡ [] → IsPlacing 0 ended current []
placing_begun ended current a b = record {
  epochs = [];
  ended_is = a;
  numbered = refl;
  turned = tt;
  before = [];
  fresh = [];
  all = refl;
  placed = refl;
  dealt = subst (λ qs. IsDealt 0 qs []) (sym b) (record { each = λ k q at. absurd (let at' : None ≡ Some q = at in cc); none = λ _. refl });
}
