-- A segment that is being written, and what it refuses.
use Rattle.std.specs.Prelude.{◌≡◌, ℕ, ◌+◌, ◌-◌, ◌*◌, ◌%◌, ◌<◌, ◌≤◌, List, [], ◌∷◌, length, get_or, Bool, Option, Some, None, nat_lt, if◌then◌else◌}
use Rattle.rw_types.specs.declared.entry.Entry.{Entry}
use Rattle.rw_wal_format.specs.Pieces.{page_size}
use Rattle.rw_wal_format.specs.Records.{record_entries}
use Rattle.rw_wal_format.specs.Writing.{log_bytes, room}
use Rattle.rw_wal_write.specs.Sinks.{TakesAll}
use Rattle.rw_wal_write.specs.declared.log_fault.LogFault.{LogFault}
use Rattle.rw_wal_write.specs.declared.log_fault.LogFault.TheVariants.{SegmentFull, Device, RecordTooLong}

-- the device, the most pages, the bytes that were written, and whether the device has failed at one
-- of them
pub record Segment (W : Type 0) : Type 0 where
  pub sink : W
  pub pages : ℕ
  pub offset : ℕ
  pub closed : Bool

-- an offset at which a fragment may begin: within the pages, and with room for a header in its page
pub record IsPlace (pages offset : ℕ) : Type 0 where
  pub some : 1 ≤ pages
  pub most : pages ≤ 4096
  pub within : offset ≤ pages * page_size
  pub header : 7 ≤ page_size - offset % page_size

-- why a record of this length is refused, if it is
abbrev pub log_refusal : {W : Type 0} → Segment W → ℕ → Option LogFault
log_refusal s len =
    if s.closed then Some Device
    else if nat_lt (16 * 1024 * 1024) len then Some RecordTooLong
    else if nat_lt (room page_size s.pages s.offset) len then Some SegmentFull
    else None

-- A record was written: its fragments are after what was written before, and nothing but the
-- offset has changed.
pub record IsLogged {W : Type 0} (contents : W → Option (List ℕ)) (has_failed : W → Bool) (room : W → ℕ) (old new : Segment W) (rec : List ℕ) : Type 0 where
  pub bytes : TakesAll contents has_failed room old.sink new.sink (log_bytes page_size old.offset rec)
  pub moved : new ≡ record old { sink = new.sink; offset = old.offset + length (log_bytes page_size old.offset rec) }

-- records were written one after the other
abbrev pub AreLogged : {W : Type 0} → (W → Option (List ℕ)) → (W → Bool) → (W → ℕ) → Segment W → Segment W → List (List ℕ) → Type 0
AreLogged contents has_failed room old new [] = new ≡ old
AreLogged {W = W} contents has_failed room old new (rec ∷ recs) =
    (next : Segment W) × IsLogged contents has_failed room old next rec × AreLogged contents has_failed room next new recs

-- a record that may be written, of bytes and not empty, and the entries that it holds
pub record HoldsEntries (r : List ℕ × List Entry) : Type 0 where
  pub are_bytes : (i : ℕ) → get_or r.0 i 0 < 256
  pub some : 0 < length r.0
  pub entries : record_entries r.0 ≡ Some r.1
