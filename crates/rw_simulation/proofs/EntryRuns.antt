-- An entry that the feeder places is one Place.
use Rattle.std.proofs.Common.{◌≡◌, ℕ, ℤ, suc, ◌+◌, true, false, List, [], ◌∷◌, length, Some, None, slice_get, refl, sym, ap, ◌∙◌, subst, arith}
use Rattle.std.specs.FinMap.{insert}
use Rattle.std.specs.Prelude.{fold}
use Rattle.rw_types.specs.declared.entry.Entry.{Entry}
use Rattle.rw_types.specs.declared.entry.Entry.TheVariants.{Def, Sample}
use Rattle.rw_types.proofs.shared.Booleans.{next as plus_one}
use Rattle.rw_series_cache.specs.Known.{standing_of, known}
use Rattle.rw_series_cache.specs.Numbers.{series_of, number_of, with_series}
use Rattle.rw_series_cache.proofs.shared.KnownLemmas.{series_of-push}
use Rattle.rw_series_cache.specs.Fates.{Fate, Drops, Filters, Sends, fate, fate_by}
use Rattle.rw_sender.specs.Logs.{Sent, kept_sample, sent_by_fate, dropped_by_fate, with_name, filtered_by_fate}
use Rattle.rw_sender.specs.Placement.{shard_of}
use Rattle.rw_machine.specs.Shards.{Shard, has_room, shard_put}
use Rattle.rw_machine.specs.Worlds.{Setup, World, is_over}
use Rattle.rw_machine.specs.Steps.{next_sample, place_as, place_entry, put_if_room, unless_over}
use Rattle.rw_machine.specs.Steps as machine
use Rattle.rw_machine.specs.declared.event.Event.TheVariants as event
use Rattle.rw_simulation.proofs.Entries.{HasRoomFor, placed_as, put_each, after_entry, IsEntryRun}
use Rattle.rw_simulation.proofs.Changes.{change-is}

pub over_not : (w : World) → w.killed ≡ false → w.closed ≡ None → is_over w ≡ false
over_not w k n = rw (k, n) refl

pub plus_none : (n : ℕ) → n ≡ n + 0
plus_none n = omega arith

module _ (c : Setup) (w : World) (before : List Entry) (placed : w.placed ≡ length before) (series : w.series ≡ series_of c.choice before) (t : ℤ) (word : ℕ) where
  -- what a sample of this fate leaves
  abbrev fated : Fate → World
  fated f = record w {
    placed = suc w.placed;
    names = fold with_name w.names (dropped_by_fate (length before) f);
    filtered = w.filtered + length (filtered_by_fate (length before) f);
    shards = put_each w (sent_by_fate c.choice before t word f) w.shards;
  }

  abbrev Room : Sent → Type 0
  Room x = (s : Shard) × (slice_get w.shards (shard_of (length w.shards) x.series) ≡ Some s) × (has_room c.capacity s ≡ true)

  by_fate : (f : Fate) → ((x : Sent) → sent_by_fate c.choice before t word f ≡ x ∷ [] → Room x) → place_as c w t word f ≡ fated f
  by_fate (Drops reason) room =
      ap (λ (n : ℕ). record w { names = insert w.names n reason; placed = suc w.placed }) placed
      ∙ ap (λ (n : ℕ). record (fated (Drops reason)) { filtered = n }) (plus_none w.filtered)
  by_fate Filters room = ap (λ (n : ℕ). record (fated Filters) { filtered = n }) (plus_one w.filtered)
  by_fate (Sends l) room =
      ap (put_if_room c w i l t word) found.1
      ∙ rw found.2 refl
      ∙ ap (λ ss. record w { shards = ss; placed = suc w.placed }) (sym (change-is (λ s. shard_put (placed_as w s x) s) i w.shards found.0 found.1 ∙ sym (change-is (shard_put (next_sample w i l t word found.0)) i w.shards found.0 found.1)))
      ∙ ap (λ (y : Sent). record w { shards = put_each w (y ∷ []) w.shards; placed = suc w.placed }) same
      ∙ ap (λ (n : ℕ). record (fated (Sends l)) { filtered = n }) (plus_none w.filtered)
    where
      x : Sent
      x = record { pos = w.placed; series = number_of w.series l; t = t; word = word; labels = l }

      same : x ≡ kept_sample c.choice before t word l
      same = λ j. record { pos = placed j; series = number_of (series j) l; t = t; word = word; labels = l }

      i : ℕ
      i = machine.shard_of_labels w l

      found : (s : Shard) × (slice_get w.shards i ≡ Some s) × (has_room c.capacity s ≡ true)
      found = subst Room (sym same) (room (kept_sample c.choice before t word l) refl)

pub entry-run : (c : Setup) (w : World) (before : List Entry) (e : Entry) → IsEntryRun c w before e
entry-run c w before e at room =
    ap (unless_over c w event.Place) (over_not w at.going.0 at.going.1)
    ∙ rw at.going.2 refl
    ∙ ap (place_entry c w) at.next
    ∙ by_entry e room
  where
    by_entry : (e : Entry) → HasRoomFor c w before e → place_entry c w (Some e) ≡ after_entry c w before e
    by_entry (Def r l) room =
        ap (λ ss. record w { series = ss; placed = suc w.placed }) (ap (λ ss. with_series ss (standing_of c.choice (Some l))) at.series ∙ sym (series_of-push c.choice before (Def r l)))
        ∙ ap (λ (n : ℕ). record (after_entry c w before (Def r l)) { filtered = n }) (plus_none w.filtered)
    by_entry (Sample r t word) room =
        ap (λ (es : List Entry). place_as c w t word (fate_by c.choice es t (known c.choice es r))) at.begins
        ∙ by_fate c w before at.placed at.series t word (fate c.choice before r t) room
        ∙ ap (λ ss. record (after_entry c w before (Sample r t word)) { series = ss }) (at.series ∙ sym (series_of-push c.choice before (Sample r t word)))
