-- Inner definitions beside those of FeedErrors.antt: only invariants, private functions and
-- proofs use them.
use Rattle.std.specs.Prelude.{◌≡◌, None, Some, ⊤}
use Rattle.rw_wal_format.specs.Pieces.{fault}
use Rattle.rw_sender.specs.Feeders.{HasReadAll}
use Rattle.rw_sender.specs.Shipping.{Shipping}
use Rattle.rw_send.specs.declared.feed_error.FeedError.{FeedError}
use Rattle.rw_send.specs.declared.feed_error.FeedError.TheVariants as error

-- the log has no fault as far as it was fed
abbrev pub IsIntact : {T : Type 0} → Shipping T → Type 0
IsIntact s = fault s.log.pieces ≡ None

-- if reading ends at a damaged log, the log has that fault, and the shipper goes on
abbrev pub HasDamage : {T : Type 0} → Shipping T → FeedError → Type 0
HasDamage s (error.Damaged f) = HasReadAll s.log (Some f) × (s.fault ≡ None)
HasDamage s error.Failed = ⊤
HasDamage s error.Unreadable = ⊤
HasDamage s (error.Missing n) = ⊤
HasDamage s error.Aborted = ⊤
