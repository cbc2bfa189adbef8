-- What one event does, and a whole schedule of them.
use Rattle.std.specs.Prelude.{ℕ, suc, zero, ◌%◌, ℤ, Bool, true, false, not, ◌&&◌, if◌then◌else◌, List, [], ◌∷◌, ◌++◌, length, map, take, Option, Some, None, is_some, Ok, nat_le, nat_lt, slice_get}
use Rattle.std.specs.Ordering.{nat_cmp}
use Rattle.std.specs.FinMap.{FinMap, insert}
use Rattle.rw_types.specs.Labels.{Labels}
use Rattle.rw_types.specs.declared.entry.Entry.{Entry}
use Rattle.rw_types.specs.declared.entry.Entry.TheVariants.{Def, Sample}
use Rattle.rw_series_cache.specs.Known.{Standing, standing_of, known}
use Rattle.rw_series_cache.specs.Numbers.{with_series, number_of}
use Rattle.rw_series_cache.specs.Fates.{Fate, Drops, Filters, Sends, kept_fate, fate_by}
use Rattle.rw_wal_tail.specs.declared.piece.Piece.{Piece}
use Rattle.rw_wal_tail.specs.Fed.{piece_of}
use Rattle.rw_ledger.specs.declared.ledger.Reason.{Reason}
use Rattle.rw_retry.specs.Judgements.{judgement_of}
use Rattle.rw_plain_queue.specs.Items.{Placed}
use Rattle.rw_plain_queue.specs.declared.item.Kind.TheVariants as kind
use Rattle.rw_batch.specs.Grouping.{message}
use Rattle.rw_batch.specs.declared.batch.BatchId.{BatchId}
use Rattle.rw_shard_core.specs.Shard.{labelled, body_of, batch_id, is_answer, settle, settle_names}
use Rattle.rw_shard_core.specs.Shard as core
use Rattle.rw_head.specs.Head.{State, Answer, answer_to}
use Rattle.rw_machine.specs.Shards.{Shard, has_room, shard_put, shard_flush, shard_end, with_core, shard_take, shard_freeze, shard_send, shard_lost}
use Rattle.rw_machine.specs.Worlds.{Setup, Request, Reply, World, log, new_shards, is_finished, all_drained, is_over}
use Rattle.rw_machine.specs.declared.event.How.{How}
use Rattle.rw_machine.specs.declared.event.How.TheVariants.{Plain, Busy, OutOfMemory}
use Rattle.rw_machine.specs.declared.event.Event.{Event}
use Rattle.rw_machine.specs.declared.event.Event.TheVariants as event

-- a shard's next state, the others as they are
abbrev pub change : ℕ → (Shard → Shard) → List Shard → List Shard
change i f [] = []
change zero f (s ∷ ss) = f s ∷ ss
change (suc i) f (s ∷ ss) = s ∷ change i f ss

abbrev pub changed : World → ℕ → (Shard → Shard) → World
changed w i f = record w { shards = change i f w.shards }

-- Feed: the piece comes after the others
abbrev pub feed : World → Piece → World
feed w piece = if is_some w.closed then w else record w { pieces = w.pieces ++ piece_of piece ∷ [] }

-- a label set's shard goes by the number of its series
abbrev pub shard_of_labels : World → Labels → ℕ
shard_of_labels w l = number_of w.series l % length w.shards

-- the sample that a shard is given next
abbrev pub next_sample : World → ℕ → Labels → ℤ → ℕ → Shard → Placed
next_sample w i l t word s = record {
  place = record { epoch = w.epoch; shard = i; seq = length s.put; pos = w.placed; series = number_of w.series l };
  t = t;
  word = word;
  labels = l;
}

abbrev pub put_if_room : Setup → World → ℕ → Labels → ℤ → ℕ → Option Shard → World
put_if_room c w i l t word None = w
put_if_room c w i l t word (Some s) =
    if has_room c.capacity s then record w { shards = change i (shard_put (next_sample w i l t word s)) w.shards; placed = suc w.placed }
    else w

-- a sample that is dropped is named, one whose series the rules drop is counted, and one that is
-- sent is put into the queue of its series' shard
abbrev pub place_as : Setup → World → ℤ → ℕ → Fate → World
place_as c w t word (Drops reason) = record w { names = insert w.names w.placed reason; placed = suc w.placed }
place_as c w t word Filters = record w { filtered = suc w.filtered; placed = suc w.placed }
place_as c w t word (Sends l) = put_if_room c w (shard_of_labels w l) l t word (slice_get w.shards (shard_of_labels w l))

abbrev pub place_kept : Setup → World → Labels → ℤ → ℕ → Bool → World
place_kept c w l t word is_rising = place_as c w t word (kept_fate is_rising l)

abbrev pub place_sample : Setup → World → ℤ → ℕ → Standing → World
place_sample c w t word standing = place_as c w t word (fate_by c.choice (take w.placed (log w)) t standing)

abbrev pub place_entry : Setup → World → Option Entry → World
place_entry c w None = w
place_entry c w (Some (Def r l)) = record w { series = with_series w.series (standing_of c.choice (Some l)); placed = suc w.placed }
place_entry c w (Some (Sample r t word)) = place_sample c w t word (known c.choice (take w.placed (log w)) r)

-- Place: the next entry, as its reference is before it
abbrev pub place : Setup → World → World
place c w = if is_some w.draining then w else place_entry c w (slice_get (log w) w.placed)

-- the mark that a shard is put
abbrev pub shard_mark : World → Shard → Shard
shard_mark w s =
    if is_finished w then shard_end kind.Orderly s
    else (if is_some w.draining then shard_end kind.Reshard s
    else shard_flush s)

-- Flush
abbrev pub flush_shard : Setup → World → Shard → Shard
flush_shard c w s = if not s.end_put && has_room c.capacity s then shard_mark w s else s

-- the open batch of a shard, and the bytes of its request
abbrev pub request_by : Shard → Request
request_by s = record { id = batch_id s.core.batch; batch = s.core.batch; bytes = core.request_for s.core }

-- Send: the request of the open batch goes out
abbrev pub send_batch : World → ℕ → Option Shard → World
send_batch w i None = w
send_batch w i (Some s) =
    if core.can_send s.core then record w {
      requests = w.requests ++ request_by s ∷ [];
      shards = change i shard_send w.shards;
    }
    else w

-- the endpoint's answer to the body of a batch: 413 Content Too Large, or what the head answers to
-- the message
abbrev pub endpoint_answer : Setup → State → List Placed → Answer
endpoint_answer c h batch =
    if nat_lt c.max_body (length (body_of batch)) then record { status = 413; head = h }
    else answer_to h (Ok (message (map labelled batch)))

abbrev pub with_answer : World → BatchId → Answer → World
with_answer w id a = record w { replies = w.replies ++ record { id = id; status = a.status } ∷ []; head = a.head }

-- a request is answered with this status, and the head stays
abbrev pub turned_away : World → ℕ → Option Request → World
turned_away w status None = w
turned_away w status (Some r) = with_answer w r.id (record { status = status; head = w.head })

-- Arrive
abbrev pub arrive : Setup → World → How → Option Request → World
arrive c w how None = w
arrive c w Plain (Some r) = with_answer w r.id (endpoint_answer c w.head r.batch)
arrive c w Busy (Some r) = with_answer w r.id (record { status = 429; head = w.head })
arrive c w OutOfMemory (Some r) = with_answer w r.id (record { status = 503; head = w.head })

-- the names after a reply to that batch: room is no part of the machine
abbrev pub names_after_reply : ℕ → List Placed → FinMap nat_cmp Reason → FinMap nat_cmp Reason
names_after_reply status batch names = (settle_names (judgement_of status) status batch (record { names = names; room = 0 })).names

abbrev pub settled : World → ℕ → Shard → ℕ → World
settled w i s status = record w {
  names = names_after_reply status s.core.batch w.names;
  shards = change i (with_core (settle (judgement_of status))) w.shards;
}

abbrev pub reply_to : World → Reply → Option Shard → World
reply_to w r None = w
reply_to w r (Some s) = if is_answer r.id s.core then settled w r.id.shard s r.status else w

-- Reply: it is for the shard that its id names
abbrev pub take_reply : World → Option Reply → World
take_reply w None = w
take_reply w (Some r) = reply_to w r (slice_get w.shards r.id.shard)

-- Reshard
abbrev pub reshard : World → ℕ → World
reshard w n =
    if not (is_some w.draining) && (not (is_finished w) && (nat_le 1 n && nat_le n 1000)) then record w { draining = Some n } else w

abbrev pub restart_as : Setup → World → Option ℕ → World
restart_as c w None = w
restart_as c w (Some n) =
    if not (is_finished w) && all_drained w then record w {
      epoch = suc w.epoch;
      shards = new_shards c (suc w.epoch) 0 n;
      draining = None;
    }
    else w

-- Restart
abbrev pub restart : Setup → World → World
restart c w = restart_as c w w.draining

-- Close: the position up to which all is to be sent is noted
abbrev pub close : World → World
close w = if is_some w.closed then w else record w { closed = Some (length (log w)) }

-- one event while there is no report
abbrev pub act : Setup → World → Event → World
act c w (event.Feed piece) = feed w piece
act c w event.Place = place c w
act c w (event.Flush i) = changed w i (flush_shard c w)
act c w (event.Take i) = changed w i shard_take
act c w (event.Freeze i) = changed w i shard_freeze
act c w (event.Send i) = send_batch w i (slice_get w.shards i)
act c w (event.Arrive k how) = arrive c w how (slice_get w.requests k)
act c w (event.Reply k) = take_reply w (slice_get w.replies k)
act c w (event.Lost i) = changed w i shard_lost
act c w (event.Reshard n) = reshard w n
act c w event.Restart = restart c w
act c w event.Close = close w
act c w event.Kill = record w { killed = true }

abbrev pub unless_over : Setup → World → Event → Bool → World
unless_over c w (event.Arrive k how) over = arrive c w how (slice_get w.requests k)
unless_over c w e true = w
unless_over c w e false = act c w e

-- one event: if its guard fails nothing changes, and once there is a report only requests still
-- arrive
abbrev pub happens : Setup → World → Event → World
happens c w e = unless_over c w e (is_over w)

-- a whole schedule
abbrev pub run : Setup → List Event → World → World
run c [] w = w
run c (e ∷ es) w = run c es (happens c w e)
