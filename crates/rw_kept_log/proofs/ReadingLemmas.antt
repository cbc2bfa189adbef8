-- A segment that is read in parts.
use Rattle.std.proofs.Common.{◌≡◌, ℕ, List, [], ◌∷◌, ◌++◌, length, Option, Some, None, refl, sym, ap, ◌∙◌, subst, append_assoc, append-nil}
use Rattle.rw_types.specs.declared.entry.Entry.{Entry}
use Rattle.rw_wal_format.specs.Segments.{Stop, between, inside, at_fault, Reading, segment, item_at, segment_in}
use Rattle.rw_wal_format.specs.Pieces.{Piece, bytes, next_segment, entries, fault, fault_at, page_size, reading, reading_after, then_after}
use Rattle.rw_wal_format.specs.declared.tail_fault.TailFault.{TailFault}
use Rattle.rw_wal_tail.specs.Fed.{Fed}
use Rattle.rw_wal_tail.specs.Places.{stop_after, stop_offset, place_then, place_of, told_place, fault_place}
use Rattle.rw_wal_tail.specs.Taking.{HasTaken, TakesAll}
use Rattle.rw_wal_tail.specs.declared.place.FaultPlace.{FaultPlace}
use Rattle.rw_kept_log.specs.Reading.{ended}
use Rattle.rw_kept_log.specs.inner.Reading.{HasFed, IsPlaced, IsFaultOf, ReadsSegment}
use Rattle.rw_kept_log.specs.declared.segment_read.SegmentFault.{SegmentFault}

none_is_some : (f : TailFault) → None ≡ Some f → ⊥
none_is_some f e = cc

-- ---- the parts of a segment

nothing_read : (segment page_size []).entries ≡ []
unfolding segment_in item_at
nothing_read = refl

none_entries : entries [] ≡ []
unfolding reading
none_entries = nothing_read

same_none : (later : List Piece) → reading page_size ([] ++ later) ≡ reading_after page_size [] later
unfolding reading
same_none later = refl

pub has_fed-none : (t : Fed) (before : List Entry) → t ≡ record { pieces = []; given = 0; skipped = []; fault = None } → HasFed [] t before before
has_fed-none t before is = subst (λ (x : Fed). HasFed [] x before before) (sym is) (record {
  same = same_none;
  stops = λ later. refl;
  has = record { count = sym (ap length none_entries); rest = []; begins = sym (append-nil (entries [])) };
  taken = sym (ap (λ (es : List Entry). before ++ es) none_entries ∙ append-nil before);
})

-- the entries that a piece adds were taken
took_more : (es before now after : List Entry) (fed new : Fed) (found : Option TailFault) (all : TakesAll fed new now after found) → HasTaken fed es → now ≡ before ++ es
    → (es ++ all.more ≡ entries new.pieces) × (after ≡ before ++ entries new.pieces)
took_more es before now after fed new found all has taken =
    let whole : es ++ all.more ≡ entries new.pieces = (all.all es has).read.all in
    (whole, all.grows ∙ ap (λ (l : List Entry). l ++ all.more) taken ∙ append_assoc before es all.more ∙ ap (λ (l : List Entry). before ++ l) whole)

-- one more part
pub has_fed-more : (read part : List ℕ) (t fed new : Fed) (before now after : List Entry) (found : Option TailFault) → HasFed read t before now → fed ≡ record t { pieces = t.pieces ++ bytes part ∷ [] }
    → ((taken : List Entry) → HasTaken t taken → HasTaken fed taken) → TakesAll fed new now after found → new.pieces ≡ fed.pieces → HasFed (read ++ part) new before after
has_fed-more read part t fed new before now after found h is still all same =
    let pieces : new.pieces ≡ t.pieces ++ bytes part ∷ [] = same ∙ ap (λ (y : Fed). y.pieces) is in
    let has = still (entries t.pieces) h.has in
    let took = took_more (entries t.pieces) before now after fed new found all has h.taken in
    record {
      same = λ later. ap (λ (ps : List Piece). reading page_size (ps ++ later)) pieces ∙ ap (reading page_size) (append_assoc t.pieces (bytes part ∷ []) later) ∙ h.same (bytes part ∷ later);
      stops = λ later. ap (λ (ps : List Piece). stop_after page_size 0 [] (ps ++ later)) pieces ∙ ap (stop_after page_size 0 []) (append_assoc t.pieces (bytes part ∷ []) later) ∙ h.stops (bytes part ∷ later);
      has = subst (HasTaken new) took.0 (all.all (entries t.pieces) has).taken_all;
      taken = took.1;
    }

-- a text of which a part was read
pub record FedSome (text rest : List ℕ) (t : Fed) (before after : List Entry) : Type 0 where
  pub read : List ℕ
  pub parts : text ≡ read ++ rest
  pub fed : HasFed read t before after

pub fed_more : (text rest part later : List ℕ) (t fed new : Fed) (before now after : List Entry) (found : Option TailFault) → FedSome text rest t before now → rest ≡ part ++ later
    → fed ≡ record t { pieces = t.pieces ++ bytes part ∷ [] } → ((taken : List Entry) → HasTaken t taken → HasTaken fed taken) → TakesAll fed new now after found → new.pieces ≡ fed.pieces → FedSome text later new before after
fed_more text rest part later t fed new before now after found h cut is still all same = record {
  read = h.read ++ part;
  parts = h.parts ∙ ap (λ (r : List ℕ). h.read ++ r) cut ∙ sym (append_assoc h.read part later);
  fed = has_fed-more h.read part t fed new before now after found h.fed is still all same;
}

pub fed_all : (text rest : List ℕ) (t : Fed) (before after : List Entry) → FedSome text rest t before after → rest ≡ [] → HasFed text t before after
fed_all text rest t before after h none =
    subst (λ (r : List ℕ). HasFed r t before after) (sym (h.parts ∙ ap (λ (r : List ℕ). h.read ++ r) none ∙ append-nil h.read)) h.fed

-- ---- the end of a segment

end_adds_none : (s : Stop) (r next : Reading) → next.entries ≡ [] → (then_after s r next).entries ≡ r.entries
end_adds_none between r next none = ap (λ (es : List Entry). r.entries ++ es) none ∙ append-nil r.entries
end_adds_none inside r next none = refl
end_adds_none (at_fault f) r next none = refl

end_entries : (text : List ℕ) → (reading_after page_size text (next_segment ∷ [])).entries ≡ (segment page_size text).entries
end_entries text = end_adds_none (segment page_size text).stop (segment page_size text) (segment page_size []) nothing_read

nothing_wrong : fault_at (segment page_size []).stop ≡ None
unfolding segment_in item_at
nothing_wrong = refl

stop_there : (s : Stop) (r next : Reading) (f : TailFault) (o : ℕ) (p : FaultPlace) → fault_at next.stop ≡ None → r.stop ≡ s → fault_at (then_after s r next).stop ≡ Some f → (place_then s 0 o p).offset ≡ o
stop_there between r next f o p none is e = absurd (none_is_some f (sym none ∙ e))
stop_there inside r next f o p none is e = refl
stop_there (at_fault g) r next f o p none is e = refl

ended_reading : (text : List ℕ) → reading page_size (ended text) ≡ reading_after page_size text (next_segment ∷ [])
unfolding reading
ended_reading text = refl

-- what is read once the segment has ended
pub record IsClosed (text : List ℕ) (t : Fed) : Type 0 where
  pub all : entries t.pieces ≡ (segment page_size text).entries
  pub fault_is : fault t.pieces ≡ fault (ended text)
  pub stop : (f : TailFault) → fault t.pieces ≡ Some f → (stop_after page_size 0 [] t.pieces).offset ≡ stop_offset page_size text

pub closed : (text : List ℕ) (t new : Fed) (before after : List Entry) → HasFed text t before after → new ≡ record t { pieces = t.pieces ++ next_segment ∷ [] } → IsClosed text new
closed text t new before after h is =
    let pieces : new.pieces ≡ t.pieces ++ next_segment ∷ [] = ap (λ (x : Fed). x.pieces) is in
    let same : reading page_size new.pieces ≡ reading_after page_size text (next_segment ∷ []) = ap (reading page_size) pieces ∙ h.same (next_segment ∷ []) in
    let ended_same : fault new.pieces ≡ fault (ended text) = ap (λ (r : Reading). fault_at r.stop) (same ∙ sym (ended_reading text)) in
    record {
      all = ap (λ (r : Reading). r.entries) same ∙ end_entries text;
      fault_is = ended_same;
      stop = λ f e. ap (λ (p : FaultPlace). p.offset) (ap (stop_after page_size 0 []) pieces ∙ h.stops (next_segment ∷ []))
          ∙ stop_there (segment page_size text).stop (segment page_size text) (segment page_size []) f (stop_offset page_size text) (stop_after page_size 1 [] []) nothing_wrong refl
          (sym (ap (λ (r : Reading). fault_at r.stop) same) ∙ e);
    }

is_fault_of : (text : List ℕ) (ps : List Piece) (found : Option TailFault) (placed : Option SegmentFault) → fault ps ≡ found → fault ps ≡ fault (ended text)
    → ((f : TailFault) → fault ps ≡ Some f → (stop_after page_size 0 [] ps).offset ≡ stop_offset page_size text) → IsPlaced ps found placed → IsFaultOf text placed
is_fault_of text ps None placed e same stop is = subst (IsFaultOf text) (sym is) (sym same ∙ e)
is_fault_of text ps (Some f) placed e same stop is = subst (IsFaultOf text) (sym is) (record { fault_is = sym same ∙ e; at = stop f e })

pub reads_segment : (text : List ℕ) (t end new : Fed) (before now after : List Entry) (count : ℕ) (found : Option TailFault) (placed : Option SegmentFault) → HasFed text t before now
    → end ≡ record t { pieces = t.pieces ++ next_segment ∷ [] } → ((taken : List Entry) → HasTaken t taken → HasTaken end taken) → TakesAll end new now after found → new.pieces ≡ end.pieces → count ≡ new.given
    → IsPlaced new.pieces found placed → ReadsSegment text (record { entries = count; fault = placed }) before after
reads_segment text t end new before now after count found placed h is still all same counted at =
    let c = closed text t end before now h is in
    let has = still (entries t.pieces) h.has in
    let took = took_more (entries t.pieces) before now after end new found all has h.taken in
    let took_all = all.all (entries t.pieces) has in
    let whole : entries new.pieces ≡ (segment page_size text).entries = ap entries same ∙ c.all in
    record {
      is_read = record {
        count = counted ∙ took_all.taken_all.count ∙ ap length (took.0 ∙ whole);
        fault_is = is_fault_of text end.pieces found placed (ap fault (sym same) ∙ took_all.read.fault_is) c.fault_is c.stop (subst (λ ps. IsPlaced ps found placed) same at);
      };
      taken = took.1 ∙ ap (λ (l : List Entry). before ++ l) whole;
    }

-- ---- the place of a fault that was answered

pub some_told : (ps : List Piece) (f : TailFault) (o : Option TailFault) → o ≡ Some f → fault ps ≡ Some f → told_place o ps ≡ Some (stop_after page_size 0 [] ps)
unfolding fault_place
some_told ps f o is e = ap (λ (x : Option TailFault). told_place x ps) is ∙ ap (λ (x : Option TailFault). place_of x ps) e

pub place_is : (r : Option FaultPlace) (p q : FaultPlace) → r ≡ Some p → r ≡ Some q → p.offset ≡ q.offset
place_is r p q e f = let same : p ≡ q = cc in ap (λ (x : FaultPlace). x.offset) same

pub none_is_no_place : (r : Option FaultPlace) (q : FaultPlace) → r ≡ None → r ≡ Some q → ⊥
none_is_no_place r q e f = cc
