-- The marks that are left at the end of an epoch are put.
use Rattle.std.proofs.Common.{◌≡◌, ℕ, zero, suc, ◌+◌, ◌<◌, ◌≤◌, List, [], ◌∷◌, ◌++◌, map, length, Some, slice_get, refl, sym, ap, ◌∙◌, subst, arith, ◌⊎◌, inl, inr, ◌==◌, true, false}
use Rattle.std.specs.List.{AllByRecursion}
use Rattle.std.proofs.lemmas.Bool.Decides.{eqb_tells}
use Rattle.std.proofs.lemmas.Option.{same_Some, slice_get_within}
use Rattle.rw_types.specs.declared.entry.Entry.{Entry}
use Rattle.rw_wal_format.specs.Pieces.{Piece}
use Rattle.rw_plain_queue.specs.Items.{samples_in}
use Rattle.rw_plain_queue.specs.declared.item.Item.{Item}
use Rattle.rw_plain_queue.specs.declared.item.Item.TheVariants as item
use Rattle.rw_sender.specs.Logs.{Sent}
use Rattle.rw_sender.specs.Placement.{as_sent}
use Rattle.rw_machine.specs.Shards.{Shard}
use Rattle.rw_machine.specs.Worlds.{Setup, Request, World}
use Rattle.rw_machine.specs.Steps.{change}
use Rattle.rw_machine.specs.declared.event.Event.TheVariants as event
use Rattle.rw_machine.proofs.shared.Places.{length_change, get_some}
use Rattle.rw_simulation.specs.Freely.{Of, run_freely}
use Rattle.rw_simulation.specs.WorkerRuns.{IsIdOf}
use Rattle.rw_simulation.specs.Tallies.{Past}
use Rattle.rw_simulation.specs.EpochRuns.{AreNext, ShardFate, end_in, AreUnsent, IsOnTheWay, IsUnderWay, Reaches, HasOnlyEnd, IsPutAllButEnd, IsAllPut}
use Rattle.rw_simulation.proofs.Changes.{change-get, change-twice}
use Rattle.rw_simulation.proofs.WorkerSteps.{moved}
use Rattle.rw_simulation.proofs.Eager.{GoesThrough, with_item, put-one, has-room}
use Rattle.rw_simulation.proofs.Tallies.{Names, with_part, part-own, part-other, tallied-shard}
use Rattle.rw_simulation.proofs.EpochRuns.{stay, go-on, each-update, none-to-send, flush-run, way-after, way_still, moved-shards, epoch-run}

-- another shard sent more
pub put-still : (c : Setup) (epoch j k : ℕ) (requests more : List Request) (now : Names) (parts : ℕ → Names) (s : Shard) (f : ShardFate) → (j ≡ k → ⊥) → AllByRecursion (IsIdOf epoch k) more → IsPutAllButEnd c epoch j requests (parts j) s f → IsPutAllButEnd c epoch j (requests ++ more) (with_part k now parts j) s f
put-still c epoch j k requests more now parts s f differ ids h = record { way = way_still c epoch j k requests more s [] f differ ids h.way; part_is = h.part_is ∙ sym (part-other k now parts j differ); at_end = h.at_end }

some_sent : (x : Sent) (xs : List Sent) → x ∷ xs ≡ [] → ⊥
some_sent x xs e = cc

module _ (c : Setup) (past : Past) (pieces : List Piece) (epoch n : ℕ) (fates : ℕ → ShardFate) (placed : List Entry) (some : 1 ≤ c.capacity) where
  -- all entries are placed, and the first m shards have been put all but their Ends
  record PutBelow (m : ℕ) (w : World) : Type 0 where
    under : IsUnderWay c past pieces epoch n fates placed [] w
    first : (k : ℕ) (s : Shard) → slice_get w.shards k ≡ Some s → k < m → IsPutAllButEnd c epoch k w.requests (under.parts k) s (fates k)

  last-too : (m : ℕ) (w : World) (s : Shard) → (h : PutBelow m w) → slice_get w.shards m ≡ Some s → IsPutAllButEnd c epoch m w.requests (h.under.parts m) s (fates m) → (k : ℕ) (t : Shard) → slice_get w.shards k ≡ Some t → k < suc m → IsPutAllButEnd c epoch k w.requests (h.under.parts k) t (fates k)
  last-too m w s h at own k t e lt = by_case (eqb_tells k m)
    where
      below_it : (k m : ℕ) → k < suc m → (k ≡ m → ⊥) → k < m
      below_it k m lt differ = omega arith

      at_own : k ≡ m → IsPutAllButEnd c epoch k w.requests (h.under.parts k) t (fates k)
      at_own same =
          let shard_is : s ≡ t = same_Some _ _ (sym at ∙ ap (slice_get w.shards) (sym same) ∙ e) in
          subst (λ (j : ℕ). IsPutAllButEnd c epoch j w.requests (h.under.parts j) t (fates j)) (sym same) (subst (λ (u : Shard). IsPutAllButEnd c epoch m w.requests (h.under.parts m) u (fates m)) shard_is own)

      by_case : (((k == m) ≡ true) × (k ≡ m)) ⊎ (((k == m) ≡ false) × (k ≡ m → ⊥)) → IsPutAllButEnd c epoch k w.requests (h.under.parts k) t (fates k)
      by_case (inl h') = at_own h'.1
      by_case (inr h') = h.first k t e (below_it k m lt h'.1)

  -- the marks of shard m
  put-marks : (m : ℕ) (ps : List Item) (w : World) (s : Shard) → (h : PutBelow m w) → slice_get w.shards m ≡ Some s → (way : IsOnTheWay c epoch m w.requests s [] (fates m)) → way.coming.ledger.names ≡ h.under.parts m → way.coming.puts ≡ ps → Reaches (AreUnsent fates) c w (PutBelow (suc m))
  unfolding way-after
  put-marks m [] w s h at way part is = stay c w (PutBelow (suc m)) (record { under = h.under; first = last-too m w s h at (record { way = way; part_is = part; at_end = subst HasOnlyEnd (sym is) tt }) })
  put-marks m (item.End kind ∷ ps) w s h at way part is = stay c w (PutBelow (suc m)) (record { under = h.under; first = last-too m w s h at (record { way = way; part_is = part; at_end = subst HasOnlyEnd (sym is) (subst (AreNext epoch m (length s.put)) is way.next) }) })
  put-marks m (item.Sample place t word labels ∷ ps) w s h at way part is = absurd (some_sent _ _ (sym (ap (λ (xs : List Item). map as_sent (samples_in xs)) is) ∙ way.sent))
  put-marks m (item.Flush ∷ ps) w s h at way part is = go-on c w (λ v. v ≡ later) (PutBelow (suc m)) flushed (λ v same. subst (λ (u : World). Reaches (AreUnsent fates) c u (PutBelow (suc m))) (sym same) (put-marks m ps later g.shard below_later (change-get g.shard m w.shards s at) way_later (sym (part-own m g.coming.ledger.names h.under.parts)) g.puts_are))
    where
      marked : World
      marked = record w { shards = change m (λ _. with_item s item.Flush) w.shards }

      g : GoesThrough c marked m (with_item s item.Flush) way.coming ps
      g = put-one c marked m s item.Flush ps way.coming is refl way.ready h.under.going.0 h.under.going.1 (change-get (with_item s item.Flush) m w.shards s at)

      later : World
      later = moved w m g.shard g.names (w.requests ++ g.more) g.replies

      runs : run_freely c (Of (event.Flush m) ∷ g.events) w ≡ later
      runs =
          ap (run_freely c g.events) (flush-run c w m s h.under.going.0 h.under.going.1 h.under.going.2 at way.ready.unended (has-room c m s item.Flush ps way.coming some is way.ready))
          ∙ g.is
          ∙ ap (λ ss. record later { shards = ss }) (change-twice (with_item s item.Flush) g.shard m w.shards)

      flushed : Reaches (AreUnsent fates) c w (λ v. v ≡ later)
      flushed = record { events = Of (event.Flush m) ∷ g.events; world = later; is = runs; holds = refl; own = λ quiet. (tt, g.own (none-to-send c epoch m w.requests s [] (fates m) way (quiet m))) }

      ids : AllByRecursion (IsIdOf epoch m) g.more
      ids = subst (λ (e : ℕ). AllByRecursion (IsIdOf e m) g.more) way.epoch_is g.ids

      way_later : IsOnTheWay c epoch m later.requests g.shard [] (fates m)
      way_later = way-after c marked epoch m s item.Flush ps way.coming [] (fates m) g
          (subst (AreNext epoch m (length s.put)) is way.next)
          (sym (ap (λ (xs : List Item). map as_sent (samples_in xs)) is) ∙ way.sent)
          (sym (ap (λ (xs : List Item). s.put ++ samples_in xs) is) ∙ way.put)
          (sym (ap end_in is) ∙ way.end)
          way.worker way.left way.epoch_is way.requests_are

      not_itself : (m : ℕ) → m < m → ⊥
      not_itself m lt = omega arith

      below_later : PutBelow m later
      below_later = record {
        under = record {
          going = h.under.going;
          pieces_are = h.under.pieces_are;
          epoch_is = h.under.epoch_is;
          count = length_change m (λ _. g.shard) w.shards ∙ h.under.count;
          placed = h.under.placed;
          rest = h.under.rest;
          begins = h.under.begins;
          series = h.under.series;
          counted = h.under.counted;
          parts = with_part m g.coming.ledger.names h.under.parts;
          tallied = tallied-shard c past epoch n placed h.under.parts w later (Of (event.Flush m) ∷ g.events) m way.coming.ledger.names g.coming.ledger.names g.more h.under.tallied runs (subst (λ (i : ℕ). m < i) h.under.count (slice_get_within w.shards m s at)) part refl ids g.grow;
          shards = moved-shards c epoch m w.requests g.more g.coming.ledger.names h.under.parts g.shard w.shards (λ j. []) fates ids (λ j t e _. h.under.shards j t e) way_later refl;
        };
        first = each-update (λ j t. j < m → IsPutAllButEnd c epoch j later.requests (with_part m g.coming.ledger.names h.under.parts j) t (fates j)) g.shard m w.shards
            (λ j t e differ lt. put-still c epoch j m w.requests g.more g.coming.ledger.names h.under.parts t (fates j) differ ids (h.first j t e lt)) (λ lt. absurd (not_itself m lt));
      }

  put-from : (more m : ℕ) (w : World) → m + more ≡ n → PutBelow m w → Reaches (AreUnsent fates) c w (PutBelow n)
  put-from zero m w sum h = stay c w (PutBelow n) (subst (λ (k : ℕ). PutBelow k w) (no_more m sum) h)
    where
      no_more : (m : ℕ) → m + 0 ≡ n → m ≡ n
      no_more m e = omega arith
  put-from (suc more) m w sum h = go-on c w (PutBelow (suc m)) (PutBelow n)
      (put-marks m (h.under.shards m found.0 found.1).way.coming.puts w found.0 h found.1 (h.under.shards m found.0 found.1).way (h.under.shards m found.0 found.1).part_is refl)
      (λ v next. put-from more (suc m) v (shift m more sum) next)
    where
      shift : (m more : ℕ) → m + suc more ≡ n → suc m + more ≡ n
      shift m more e = omega arith

      within : (m more : ℕ) → m + suc more ≡ n → m < n
      within m more e = omega arith

      found : (s : Shard) × (slice_get w.shards m ≡ Some s)
      found = get_some w.shards m (subst (λ (k : ℕ). m < k) (sym h.under.count) (within m more sum))

  put-all : (w : World) → IsUnderWay c past pieces epoch n fates placed [] w → Reaches (AreUnsent fates) c w (IsAllPut c past pieces epoch n fates placed)
  put-all w under = go-on c w (PutBelow n) (IsAllPut c past pieces epoch n fates placed) (put-from n 0 w (zero_plus n) (record { under = under; first = λ k s e lt. absurd (none_below k lt) }))
      (λ v h. stay c v (IsAllPut c past pieces epoch n fates placed) (record { under = h.under; each = λ k s e. h.first k s e (subst (λ (m : ℕ). k < m) h.under.count (slice_get_within v.shards k s e)) }))
    where
      zero_plus : (n : ℕ) → 0 + n ≡ n
      zero_plus n = omega arith

      none_below : (k : ℕ) → k < 0 → ⊥
      none_below k lt = omega arith

-- all the entries are placed, and all marks are put
abbrev pub IsWholeEpochRun : Setup → Past → Type 0
IsWholeEpochRun c past =
    (pieces : List Piece) (epoch n : ℕ) (fates : ℕ → ShardFate) (before es : List Entry) (w : World) → 1 ≤ c.capacity → 1 ≤ n
    → IsUnderWay c past pieces epoch n fates before es w → Reaches (AreUnsent fates) c w (IsAllPut c past pieces epoch n fates (before ++ es))

pub whole-epoch-run : (c : Setup) (past : Past) → IsWholeEpochRun c past
whole-epoch-run c past pieces epoch n fates before es w some shards under =
    go-on c w (IsUnderWay c past pieces epoch n fates (before ++ es) []) (IsAllPut c past pieces epoch n fates (before ++ es)) (epoch-run c past pieces epoch n fates before es w some shards under)
    (λ v done. put-all c past pieces epoch n fates (before ++ es) some v done)
