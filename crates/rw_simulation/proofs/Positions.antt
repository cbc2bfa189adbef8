-- The positions of an epoch's samples: each is below the end of its entries, and is of one shard.
use Rattle.std.proofs.Common.{◌≡◌, ℕ, zero, suc, ◌+◌, ◌<◌, ◌≤◌, ◌==◌, Bool, true, false, cond, List, [], ◌∷◌, ◌++◌, map, length, drop, filter, Some, slice_get, refl, sym, ap, ◌∙◌, subst, length-append, arith, ◌⊎◌, inl, inr}
use Rattle.std.specs.List.{AllByRecursion}
use Rattle.std.proofs.lemmas.Bool.{eq-eqb, ne_eqb, eqb-true}
use Rattle.rw_types.specs.Rising.{Rises}
use Rattle.rw_types.proofs.shared.AllLemmas.{AllByRecursion-append, AllByRecursion-map, AllByRecursion-weaker}
use Rattle.rw_types.proofs.shared.RisingLemmas.{Rises-filter}
use Rattle.rw_types.specs.declared.entry.Entry.{Entry}
use Rattle.rw_types.specs.declared.entry.Entry.TheVariants as entry
use Rattle.rw_types.specs.Gathering.{gather_from}
use Rattle.rw_relabel.specs.declared.choice.Choice.{Choice}
use Rattle.rw_plain_queue.specs.Items.{samples_in}
use Rattle.rw_plain_queue.specs.declared.item.Item.{Item}
use Rattle.rw_plain_queue.specs.declared.item.Item.TheVariants.{Sample, Flush, End}
use Rattle.rw_series_cache.specs.Fates.{Fate, Drops, Filters, Sends, fate}
use Rattle.rw_sender.specs.Logs.{Sent, kept_sample, sent_by_fate, sent_of}
use Rattle.rw_fleet.specs.Work.{positions_in}
use Rattle.rw_fleet.specs.declared.joined.StoppedShard.{StoppedShard}
use Rattle.rw_sender.specs.Placement.{as_sent, shard_of, of_shard}
use Rattle.rw_sender.specs.Reports.{abandoned_in}
use Rattle.rw_sender.specs.Spread.{IsSentBefore}
use Rattle.rw_simulation.proofs.RisingOrders.{Differ}

-- ---- facts of each element
AllByRecursion-both : {X : Type 0} (P Q : X → Type 0) (xs : List X) → AllByRecursion P xs → AllByRecursion Q xs → AllByRecursion (λ x. P x × Q x) xs
AllByRecursion-both P Q [] a b = tt
AllByRecursion-both P Q (x ∷ xs) a b = ((a.0, b.0), AllByRecursion-both P Q xs a.1 b.1)

AllByRecursion-drop : {X : Type 0} (P : X → Type 0) (n : ℕ) (xs : List X) → AllByRecursion P xs → AllByRecursion P (drop n xs)
AllByRecursion-drop P zero xs a = a
AllByRecursion-drop P (suc n) [] a = tt
AllByRecursion-drop P (suc n) (x ∷ xs) a = AllByRecursion-drop P n xs a.1

AllByRecursion-filtered : {X : Type 0} (P : X → Type 0) (p : X → Bool) (xs : List X) → AllByRecursion P xs → AllByRecursion (λ x. P x × (p x ≡ true)) (filter p xs)
AllByRecursion-filtered P p [] a = tt
AllByRecursion-filtered P p (x ∷ xs) a = one (p x) refl (AllByRecursion-filtered P p xs a.1)
  where
    one : (b : Bool) → p x ≡ b → AllByRecursion (λ y. P y × (p y ≡ true)) (filter p xs) → AllByRecursion (λ y. P y × (p y ≡ true)) (cond b (x ∷ filter p xs) (filter p xs))
    one true e rest = ((a.0, e), rest)
    one false e rest = rest

Rises-drop : {X : Type 0} (R : X → X → Type 0) (n : ℕ) (xs : List X) → Rises R xs → Rises R (drop n xs)
Rises-drop R zero xs r = r
Rises-drop R (suc n) [] r = tt
Rises-drop R (suc n) (x ∷ xs) r = Rises-drop R n xs r.1

Rises-append : {X : Type 0} (R : X → X → Type 0) (xs ys : List X) → Rises R xs → Rises R ys → AllByRecursion (λ x. AllByRecursion (R x) ys) xs → Rises R (xs ++ ys)
Rises-append R [] ys r q across = q
Rises-append R (x ∷ xs) ys r q across = (AllByRecursion-append (R x) xs ys r.0 across.0, Rises-append R xs ys r.1 q across.1)

abbrev pub position_of : Sent → ℕ
position_of x = x.pos

apart : (m n : ℕ) → m < n → m ≡ n → ⊥
apart m n lt e = omega arith

differ-positions : (xs : List Sent) → Rises IsSentBefore xs → Rises Differ (map position_of xs)
differ-positions [] r = tt
differ-positions (x ∷ xs) r = (AllByRecursion-map (Differ x.pos) position_of xs (AllByRecursion-weaker (IsSentBefore x) (λ (y : Sent). Differ x.pos y.pos) (λ y lt. apart x.pos y.pos lt) xs r.0), differ-positions xs r.1)

-- ---- the samples of some entries
one_placed : (choice : Choice) (before : List Entry) (e : Entry) → (sent_of choice before e ≡ []) ⊎ ((x : Sent) × (sent_of choice before e ≡ x ∷ []) × (x.pos ≡ length before))
one_placed choice before (entry.Def r l) = inl refl
one_placed choice before (entry.Sample r t word) = by_fate (fate choice before r t)
  where
    by_fate : (f : Fate) → (sent_by_fate choice before t word f ≡ []) ⊎ ((x : Sent) × (sent_by_fate choice before t word f ≡ x ∷ []) × (x.pos ≡ length before))
    by_fate (Drops reason) = inl refl
    by_fate Filters = inl refl
    by_fate (Sends l) = inr (kept_sample choice before t word l, refl, refl)

abbrev IsFrom : ℕ → ℕ → Sent → Type 0
IsFrom a n x = (a ≤ x.pos) × (x.pos < a + n)

wider : (a b n p : ℕ) → b ≡ a + 1 → b ≤ p → p < b + n → (a ≤ p) × (p < a + suc n)
wider a b n p up low high = (omega arith, omega arith)

first_within : (a n p : ℕ) → p ≡ a → (a ≤ p) × (p < a + suc n)
first_within a n p is = (omega arith, omega arith)

stands_before : (a b p q : ℕ) → b ≡ a + 1 → p ≡ a → b ≤ q → p < q
stands_before a b p q up is low = omega arith

-- they rise, each at the position of its entry
record AreGathered (a n : ℕ) (xs : List Sent) : Type 0 where
  pub rises : Rises IsSentBefore xs
  pub within : AllByRecursion (IsFrom a n) xs

gathered : (choice : Choice) (before es : List Entry) → AreGathered (length before) (length es) (gather_from (sent_of choice) before es)
gathered choice before [] = record { rises = tt; within = tt }
gathered choice before (e ∷ es) = by_sent (gathered choice (before ++ e ∷ []) es) (one_placed choice before e)
  where
    later : List Sent
    later = gather_from (sent_of choice) (before ++ e ∷ []) es

    longer : length (before ++ e ∷ []) ≡ length before + 1
    longer = length-append before (e ∷ [])

    rest_within : AreGathered (length (before ++ e ∷ [])) (length es) later → AllByRecursion (IsFrom (length before) (suc (length es))) later
    rest_within rest = AllByRecursion-weaker (IsFrom (length (before ++ e ∷ [])) (length es)) (IsFrom (length before) (suc (length es)))
        (λ x h. wider (length before) (length (before ++ e ∷ [])) (length es) x.pos longer h.0 h.1) later rest.within

    by_sent : AreGathered (length (before ++ e ∷ [])) (length es) later → (sent_of choice before e ≡ []) ⊎ ((x : Sent) × (sent_of choice before e ≡ x ∷ []) × (x.pos ≡ length before)) → AreGathered (length before) (suc (length es)) (sent_of choice before e ++ later)
    by_sent rest (inl none) = subst (λ (xs : List Sent). AreGathered (length before) (suc (length es)) (xs ++ later)) (sym none) (record { rises = rest.rises; within = rest_within rest })
    by_sent rest (inr (x, one, at)) = subst (λ (xs : List Sent). AreGathered (length before) (suc (length es)) (xs ++ later)) (sym one) (record {
      rises = (AllByRecursion-weaker (IsFrom (length (before ++ e ∷ [])) (length es)) (IsSentBefore x) (λ y h. stands_before (length before) (length (before ++ e ∷ [])) x.pos y.pos longer at h.0) later rest.within, rest.rises);
      within = (first_within (length before) (length es) x.pos at, rest_within rest);
    })

-- ---- the shard of a position
abbrev pub series_at : List Sent → ℕ → ℕ
series_at [] p = 0
series_at (x ∷ xs) p = cond (x.pos == p) x.series (series_at xs p)

series_at-is : (xs : List Sent) → Rises IsSentBefore xs → AllByRecursion (λ (x : Sent). series_at xs x.pos ≡ x.series) xs
series_at-is [] r = tt
series_at-is (x ∷ xs) r = (
  ap (λ b. cond b x.series (series_at xs x.pos)) (eq-eqb x.pos x.pos refl),
  AllByRecursion-weaker (λ (y : Sent). IsSentBefore x y × (series_at xs y.pos ≡ y.series)) (λ (y : Sent). series_at (x ∷ xs) y.pos ≡ y.series)
      (λ y h. ap (λ b. cond b x.series (series_at xs y.pos)) (ne_eqb x.pos y.pos (apart x.pos y.pos h.0)) ∙ h.1) xs
      (AllByRecursion-both (IsSentBefore x) (λ (y : Sent). series_at xs y.pos ≡ y.series) xs r.0 (series_at-is xs r.1)),
)

-- these positions are of shard k, differ, and are below the bound
pub record ArePartOf (n k : ℕ) (samples : List Sent) (bound : ℕ) (ps : List ℕ) : Type 0 where
  pub owned : AllByRecursion (λ (p : ℕ). shard_of n (series_at samples p) ≡ k) ps
  pub differ : Rises Differ ps
  pub below : AllByRecursion (λ (p : ℕ). p < bound) ps

pub part-dropped : (n k : ℕ) (samples : List Sent) (bound : ℕ) (m : ℕ) (ps : List ℕ) → ArePartOf n k samples bound ps → ArePartOf n k samples bound (drop m ps)
part-dropped n k samples bound m ps h = record {
  owned = AllByRecursion-drop (λ (p : ℕ). shard_of n (series_at samples p) ≡ k) m ps h.owned;
  differ = Rises-drop Differ m ps h.differ;
  below = AllByRecursion-drop (λ (p : ℕ). p < bound) m ps h.below;
}

-- the positions of what a shard was put
pub part-of : (n k : ℕ) (choice : Choice) (before es : List Entry) → ArePartOf n k (gather_from (sent_of choice) before es) (length (before ++ es)) (map position_of (of_shard n k (gather_from (sent_of choice) before es)))
part-of n k choice before es = record {
  owned = AllByRecursion-map (λ (p : ℕ). shard_of n (series_at samples p) ≡ k) position_of (of_shard n k samples)
      (AllByRecursion-weaker (λ (x : Sent). (series_at samples x.pos ≡ x.series) × ((shard_of n x.series == k) ≡ true)) (λ (x : Sent). shard_of n (series_at samples x.pos) ≡ k)
      (λ x h. ap (shard_of n) h.0 ∙ eqb-true (shard_of n x.series) k h.1) (of_shard n k samples)
      (AllByRecursion-filtered (λ (x : Sent). series_at samples x.pos ≡ x.series) (λ (x : Sent). shard_of n x.series == k) samples (series_at-is samples all.rises)));
  differ = differ-positions (of_shard n k samples) (Rises-filter IsSentBefore (λ (x : Sent). shard_of n x.series == k) samples all.rises);
  below = AllByRecursion-map (λ (p : ℕ). p < length (before ++ es)) position_of (of_shard n k samples)
      (AllByRecursion-weaker (λ (x : Sent). IsFrom (length before) (length es) x × ((shard_of n x.series == k) ≡ true)) (λ (x : Sent). x.pos < length (before ++ es))
      (λ x h. subst (λ (m : ℕ). x.pos < m) (sym (length-append before es)) h.0.1) (of_shard n k samples)
      (AllByRecursion-filtered (IsFrom (length before) (length es)) (λ (x : Sent). shard_of n x.series == k) samples all.within));
}
  where
    samples : List Sent
    samples = gather_from (sent_of choice) before es

    all : AreGathered (length before) (length es) samples
    all = gathered choice before es

pub positions_in-is : (items : List Item) → positions_in items ≡ map position_of (map as_sent (samples_in items))
positions_in-is [] = refl
positions_in-is (Sample place t word labels ∷ xs) = ap (λ (ps : List ℕ). place.pos ∷ ps) (positions_in-is xs)
positions_in-is (Flush ∷ xs) = positions_in-is xs
positions_in-is (End kind ∷ xs) = positions_in-is xs

-- ---- what all shards left
module _ (n : ℕ) (samples : List Sent) (bound : ℕ) where
  -- the positions differ, are below the bound, and are of shards from this one on
  pub record AreApart (k : ℕ) (ps : List ℕ) : Type 0 where
    pub differ : Rises Differ ps
    pub below : AllByRecursion (λ (p : ℕ). p < bound) ps
    pub from : AllByRecursion (λ (p : ℕ). k ≤ shard_of n (series_at samples p)) ps

  plus_none : (k m : ℕ) → m ≡ k + 0 → k ≤ m
  plus_none k m e = omega arith

  weaker : (k m : ℕ) → suc k ≤ m → k ≤ m
  weaker k m le = omega arith

  shift : (k i : ℕ) → k + suc i ≡ suc k + i
  shift k i = omega arith

  other_shard : (k a b : ℕ) → a ≡ k + 0 → suc k ≤ b → a ≡ b → ⊥
  other_shard k a b own later same = omega arith

  pub all-apart : {T : Type 0} (k : ℕ) (js : List (StoppedShard T)) → ((i : ℕ) (j : StoppedShard T) → slice_get js i ≡ Some j → ArePartOf n (k + i) samples bound j.abandoned.items) → AreApart k (abandoned_in js)
  all-apart k [] each = record { differ = tt; below = tt; from = tt }
  all-apart k (j ∷ js) each = with-rest (all-apart (suc k) js (λ i x e. subst (λ (m : ℕ). ArePartOf n m samples bound x.abandoned.items) (shift k i) (each (suc i) x e)))
    where
      own : ArePartOf n (k + 0) samples bound j.abandoned.items
      own = each 0 j refl

      with-rest : AreApart (suc k) (abandoned_in js) → AreApart k (j.abandoned.items ++ abandoned_in js)
      with-rest rest = record {
        differ = Rises-append Differ j.abandoned.items (abandoned_in js) own.differ rest.differ
            (AllByRecursion-weaker (λ (p : ℕ). shard_of n (series_at samples p) ≡ k + 0) (λ (p : ℕ). AllByRecursion (Differ p) (abandoned_in js))
            (λ p is. AllByRecursion-weaker (λ (q : ℕ). suc k ≤ shard_of n (series_at samples q)) (Differ p)
            (λ q le same. other_shard k (shard_of n (series_at samples p)) (shard_of n (series_at samples q)) is le (ap (λ (m : ℕ). shard_of n (series_at samples m)) same)) (abandoned_in js) rest.from)
            j.abandoned.items own.owned);
        below = AllByRecursion-append (λ (p : ℕ). p < bound) j.abandoned.items (abandoned_in js) own.below rest.below;
        from = AllByRecursion-append (λ (p : ℕ). k ≤ shard_of n (series_at samples p)) j.abandoned.items (abandoned_in js)
            (AllByRecursion-weaker (λ (p : ℕ). shard_of n (series_at samples p) ≡ k + 0) (λ (p : ℕ). k ≤ shard_of n (series_at samples p)) (λ p is. plus_none k (shard_of n (series_at samples p)) is) j.abandoned.items own.owned)
            (AllByRecursion-weaker (λ (p : ℕ). suc k ≤ shard_of n (series_at samples p)) (λ (p : ℕ). k ≤ shard_of n (series_at samples p)) (λ p le. weaker k (shard_of n (series_at samples p)) le) (abandoned_in js) rest.from);
      }
