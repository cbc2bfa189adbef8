-- What an event leaves alone.
use Rattle.std.proofs.Common.{ℕ, List, Option, Some, None, is_some, slice_get, ℤ, take, Bool, true, false}
use Rattle.std.specs.FinMap.{FinMap}
use Rattle.std.specs.Ordering.{nat_cmp}
use Rattle.rw_ledger.specs.declared.ledger.Reason.{Reason}
use Rattle.rw_machine.specs.Shards.{Shard, has_room}
use Rattle.rw_machine.specs.Steps.{place, place_entry, place_kept, place_sample, put_if_room, reply_to, restart_as, shard_of_labels, take_reply}
use Rattle.rw_machine.specs.Worlds.{Reply, Setup, World, log}
use Rattle.rw_series_cache.specs.Known.{Bad, Filtered, Kept, Standing, Unknown, known}
use Rattle.rw_series_cache.specs.Rising.{rises}
use Rattle.rw_types.specs.Labels.{Labels}
use Rattle.rw_types.specs.declared.entry.Entry.{Entry}
use Rattle.rw_types.specs.declared.entry.Entry.TheVariants.{Def, Sample}
use Rattle.rw_types.proofs.shared.Booleans.{either}

-- Place changes shards, series, the names and the counts alone
pub place_frame : (P : World → Type 0) (c : Setup) (w : World) → ((shards : List Shard) (series : List Labels) (names : FinMap nat_cmp Reason) (filtered placed : ℕ) → P (record w { shards = shards; series = series; names = names; filtered = filtered; placed = placed })) → P (place c w)
place_frame P c w at = either P (is_some w.draining) w (place_entry c w (slice_get (log w) w.placed)) (λ _. same) (λ _. by_entry (slice_get (log w) w.placed))
  where
    same : P w
    same = at w.shards w.series w.names w.filtered w.placed

    by_shard : (i : ℕ) (l : Labels) (t : ℤ) (word : ℕ) (o : Option Shard) → P (put_if_room c w i l t word o)
    by_shard i l t word None = same
    by_shard i l t word (Some s) = either P (has_room c.capacity s) _ w (λ _. at _ w.series w.names w.filtered _) (λ _. same)

    by_rising : (l : Labels) (t : ℤ) (word : ℕ) (b : Bool) → P (place_kept c w l t word b)
    by_rising l t word true = by_shard (shard_of_labels w l) l t word (slice_get w.shards (shard_of_labels w l))
    by_rising l t word false = at w.shards w.series _ w.filtered _

    by_known : (t : ℤ) (word : ℕ) (k : Standing) → P (place_sample c w t word k)
    by_known t word Unknown = at w.shards w.series _ w.filtered _
    by_known t word (Bad f) = at w.shards w.series _ w.filtered _
    by_known t word Filtered = at w.shards w.series w.names _ _
    by_known t word (Kept l) = by_rising l t word (rises c.choice (take w.placed (log w)) l t)

    by_entry : (o : Option Entry) → P (place_entry c w o)
    by_entry None = same
    by_entry (Some (Def r l)) = at w.shards _ w.names w.filtered _
    by_entry (Some (Sample r t word)) = by_known t word (known c.choice (take w.placed (log w)) r)

-- a reply changes shards and the names alone
pub reply_frame : (P : World → Type 0) (w : World) (o : Option Reply) → ((shards : List Shard) (names : FinMap nat_cmp Reason) → P (record w { shards = shards; names = names })) → P (take_reply w o)
reply_frame P w None at = at w.shards w.names
reply_frame P w (Some a) at = by_shard (slice_get w.shards a.id.shard)
  where
    by_shard : (o : Option Shard) → P (reply_to w a o)
    by_shard None = at w.shards w.names
    by_shard (Some s) = either P _ _ w (λ _. at _ _) (λ _. at w.shards w.names)

-- a restart changes the epoch, shards and draining alone
pub restart_frame : (P : World → Type 0) (c : Setup) (w : World) (o : Option ℕ) → ((epoch : ℕ) (shards : List Shard) (draining : Option ℕ) → P (record w { epoch = epoch; shards = shards; draining = draining })) → P (restart_as c w o)
restart_frame P c w None at = at w.epoch w.shards w.draining
restart_frame P c w (Some n) at = either P _ _ w (λ _. at _ _ _) (λ _. at w.epoch w.shards w.draining)
