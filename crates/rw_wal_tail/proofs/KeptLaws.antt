-- The room for a record in fragments, and the bound of all counts, as a reader goes on.
use Rattle.std.proofs.Common.{◌≡◌, ℕ, ◌+◌, ◌<◌, ◌≤◌, ◌^◌, List, [], ◌∷◌, ◌++◌, length, take, drop, Option, Some, None, Result, Ok, Err, Bool, true, false, ◌&&◌, refl, sym, ap, ◌∙◌, arith, subst, length-append, length-drop, inl, inr, ◌⊎◌, ltb, cond, take_all}
use Rattle.std.specs.Prelude.{vec_capacity, IfOk, OnOk, OnErr, MatchResult}
use Rattle.std.proofs.lemmas.Bool.{ltb-false}
use Rattle.std.proofs.lemmas.List.{take-append-le}
use Rattle.rw_types.specs.declared.entry.Entry.{Entry}
use Rattle.rw_wal_format.specs.Records.{◌then◌, record_entries, is_skipped}
use Rattle.rw_wal_format.specs.Segments.{Kind, Reading, Record, text_of, flagged, complete, joined, fragment, full, last}
use Rattle.rw_wal_format.specs.Pieces.{Piece, bytes, next_segment, may_compress, entries}
use Rattle.rw_wal_format.specs.declared.tail_fault.TailFault.{TailFault}
use Rattle.rw_wal_tail.specs.declared.reader.Reader.{Reader}
use Rattle.rw_wal_tail.specs.inner.Held.{Held, waiting, has_ended, begun_with, extend_last, fed_with, fed, passed, marked, one_more, can_count, later_bytes, unread}
use Rattle.rw_wal_format.specs.Skipped.{skips_of, skipped_type}
use Rattle.rw_wal_format.specs.declared.skipped_type.SkippedType.{SkippedType}
use Rattle.rw_wal_tail.specs.inner.Still.{still, from_here, open_data}
use Rattle.rw_wal_tail.specs.inner.Form.{HasEntries, StoresEntries}
use Rattle.rw_wal_tail.specs.Fed.{Fed, size_of}
use Rattle.rw_wal_tail.specs.inner.Fed.{Follows, IsStuck, IsTail}
use Rattle.rw_wal_tail.specs.inner.Steps.{compresses, open_of, item_of, data_at_front, still_read, waiting_of, CanStep, FoundAt, IsKept, GivesNext, IsRead, IsTextRead, MayLack, Same, IsOfLog, IsReader}
use Rattle.rw_wal_tail.proofs.HeldLaws.{later_bytes-append}
use Rattle.rw_wal_tail.proofs.StepLaws.{data_length, known_as, joins_full, joins_last, read_of_text}
use Rattle.rw_wal_format.specs.declared.tail_fault.TailFault.TheVariants.{OutOfMemory}
use Rattle.rw_wal_tail.proofs.PlaceSteps.{place_same}
use Rattle.rw_wal_tail.proofs.FedLaws.{all_read, follows_same}
use Rattle.rw_wal_tail.proofs.StillLaws.{still_fields, still_whole}

-- ---- bytes that are not read

later_bytes-extend : (b : List ℕ) (s : ℕ × List ℕ) (ss : List (ℕ × List ℕ)) → later_bytes (extend_last b (s ∷ ss)) ≡ later_bytes (s ∷ ss) + length b
later_bytes-extend b s [] = omega (arith, length-append s.1 b)
later_bytes-extend b s (t ∷ ss) = omega (arith, later_bytes-extend b t ss)

-- new is old, as far as this goes
pub kept_same : (old new : Reader) (n : ℕ) → new.input ≡ old.input → length new.begun.items ≤ length old.begun.items → vec_capacity old.begun ≤ vec_capacity new.begun → new.passed ≡ old.passed
    → IsKept n old → IsKept n new
kept_same old new n i d c p k =
    let u : unread new.input ≡ unread old.input = ap unread i in
    let o : new.input.offset ≡ old.input.offset = ap (λ (h : Held). h.offset) i in
    let r : length new.input.rest ≡ length old.input.rest = ap (λ (h : Held). length h.rest) i in
    let e : new.input.ends ≡ old.input.ends = ap (λ (h : Held). h.ends) i in
    record {
      room = omega (arith, d, c, u, k.room);
      passed = omega (arith, ap length p, u, k.passed);
      offset = omega (arith, o, r, k.offset);
      ends = omega (arith, e, k.ends);
    }

-- what feeding changes
record Grows (h g : Held) (n : ℕ) : Type 0 where
  unread_more : unread g ≡ unread h + n
  offset_same : g.offset ≡ h.offset
  rest_within : length g.rest ≤ length h.rest + n
  ends_same : g.ends ≡ h.ends

grows_with : (b : List ℕ) (h : Held) (later : List (ℕ × List ℕ)) (ended : Bool) → Grows (record h { later = later }) (fed_with b h later ended) (length b)
grows_with b h later true = record { unread_more = omega (arith, later_bytes-append later ((h.ends, b) ∷ [])); offset_same = refl; rest_within = omega arith; ends_same = refl }
grows_with b h [] false = record { unread_more = omega (arith, length-append h.rest b); offset_same = refl; rest_within = omega (arith, length-append h.rest b); ends_same = refl }
grows_with b h (s ∷ ss) false = record { unread_more = omega (arith, later_bytes-extend b s ss); offset_same = refl; rest_within = omega arith; ends_same = refl }

grows : (b : List ℕ) (h : Held) → Grows h (fed b h) (length b)
unfolding fed
grows b h = grows_with b h h.later h.ended

pub kept_fed : (old new : Reader) (b : List ℕ) (n : ℕ) → new.input ≡ fed b old.input → new.begun.items ≡ old.begun.items → new.passed ≡ old.passed
    → length old.begun.items + (unread old.input + length b) ≤ vec_capacity new.begun → IsKept n old → IsKept (n + length b) new
kept_fed old new b n i d p room k =
    let g = grows b old.input in
    let u : unread new.input ≡ unread (fed b old.input) = ap unread i in
    let o : new.input.offset ≡ (fed b old.input).offset = ap (λ (h : Held). h.offset) i in
    let r : length new.input.rest ≡ length (fed b old.input).rest = ap (λ (h : Held). length h.rest) i in
    let e : new.input.ends ≡ (fed b old.input).ends = ap (λ (h : Held). h.ends) i in
    let l : length new.begun.items ≡ length old.begun.items = ap length d in
    record {
      room = omega (arith, l, u, g.unread_more, room);
      passed = omega (arith, ap length p, u, g.unread_more, k.passed);
      offset = omega (arith, o, r, g.offset_same, g.rest_within, k.offset);
      ends = omega (arith, e, g.ends_same, k.ends);
    }

-- the same if feeding may fail
pub kept_feed : {T E : Type 0} (r : Result T E) (old new : Reader) (b : List ℕ) (n : ℕ) → OnOk r (new.input ≡ fed b old.input) → OnErr r (new.input ≡ old.input) → new.begun.items ≡ old.begun.items → new.passed ≡ old.passed
    → length old.begun.items + (unread old.input + length b) ≤ vec_capacity new.begun → vec_capacity old.begun ≤ vec_capacity new.begun → IsKept n old → MatchResult r (λ _. IsKept (n + length b) new) (λ _. IsKept n new)
kept_feed (Ok x) old new b n i e d p room c k = kept_fed old new b n i d p room k
kept_feed (Err x) old new b n i e d p room c k = kept_same old new n e (omega (arith, ap length d)) c p k

one_more_within : (n m : ℕ) (b : Bool) → n ≤ m → cond b (n + 1) n ≤ m + 1
one_more_within n m true h = omega arith
one_more_within n m false h = omega arith

pub kept_marked : (old new : Reader) (n : ℕ) → new.input ≡ marked old.input → new.begun ≡ old.begun → new.passed ≡ old.passed → IsKept n old → IsKept (n + 1) new
kept_marked old new n i d p k =
    let u : unread new.input ≡ unread old.input = ap unread i in
    let o : new.input.offset ≡ old.input.offset = ap (λ (h : Held). h.offset) i in
    let r : length new.input.rest ≡ length old.input.rest = ap (λ (h : Held). length h.rest) i in
    let e : new.input.ends ≡ one_more old.input.ends = ap (λ (h : Held). h.ends) i in
    let m : one_more old.input.ends ≤ n + 1 = one_more_within old.input.ends n (ltb old.input.ends (2 ^ 60)) k.ends in
    let l : length new.begun.items ≡ length old.begun.items = ap (λ v. length v.items) d in
    let c : vec_capacity new.begun ≡ vec_capacity old.begun = ap (λ v. vec_capacity v) d in
    record {
      room = omega (arith, l, c, u, k.room);
      passed = omega (arith, ap length p, u, k.passed);
      offset = omega (arith, o, r, k.offset);
      ends = omega (arith, e, m);
    }

-- ---- steps

-- new is old after n bytes, of which m at most are joined to the data of a record
pub kept_passed : (old new : Reader) (n m k : ℕ) → new.input ≡ passed n old.input → n ≤ length old.input.rest → m < n → length new.begun.items ≤ length old.begun.items + m
    → vec_capacity old.begun ≤ vec_capacity new.begun → length new.passed ≤ length old.passed + 1 → IsKept k old → IsKept k new
kept_passed old new n m k i le lt d c p kept =
    let u : unread new.input ≡ length (drop n old.input.rest) + later_bytes old.input.later = ap unread i in
    let o : new.input.offset ≡ old.input.offset + n = ap (λ (h : Held). h.offset) i in
    let r : length new.input.rest ≡ length (drop n old.input.rest) = ap (λ (h : Held). length h.rest) i in
    let e : new.input.ends ≡ old.input.ends = ap (λ (h : Held). h.ends) i in
    let l = length-drop n old.input.rest in
    record {
      room = omega (arith, d, c, u, l, le, lt, kept.room);
      passed = omega (arith, p, u, l, le, lt, kept.passed);
      offset = omega (arith, o, r, l, le, kept.offset);
      ends = omega (arith, e, kept.ends);
    }

begun_bytes : (later : List (ℕ × List ℕ)) (ended : Bool) (ends : ℕ) → has_ended later ended ≡ true
    → (unread (begun_with later ended ends) ≡ later_bytes later) × ((begun_with later ended ends).offset ≡ 0) × ((begun_with later ended ends).ends ≡ ends)
begun_bytes [] ended ends h = (refl, refl, refl)
begun_bytes (s ∷ ss) ended ends h = (refl, refl, refl)

pub kept_begun : (old new : Reader) (n : ℕ) → has_ended old.input.later old.input.ended ≡ true → new.input ≡ begun_with old.input.later old.input.ended old.input.ends → new.begun ≡ old.begun
    → new.passed ≡ old.passed → IsKept n old → IsKept n new
kept_begun old new n h i d p k =
    let b = begun_bytes old.input.later old.input.ended old.input.ends h in
    let g : Held = begun_with old.input.later old.input.ended old.input.ends in
    let u : unread new.input ≡ unread g = ap unread i in
    let o : new.input.offset ≡ g.offset = ap (λ (h : Held). h.offset) i in
    let r : length new.input.rest ≡ length g.rest = ap (λ (h : Held). length h.rest) i in
    let e : new.input.ends ≡ g.ends = ap (λ (h : Held). h.ends) i in
    let l : length new.begun.items ≡ length old.begun.items = ap (λ v. length v.items) d in
    let c : vec_capacity new.begun ≡ vec_capacity old.begun = ap (λ v. vec_capacity v) d in
    let ub : unread g ≡ later_bytes old.input.later = b.0 in
    let ob : g.offset ≡ 0 = b.1 in
    let eb : g.ends ≡ old.input.ends = b.2 in
    record {
      room = omega (arith, l, c, u, ub, k.room);
      passed = omega (arith, ap length p, u, ub, k.passed);
      offset = omega (arith, o, r, ob, ub, k.passed);
      ends = omega (arith, e, eb, k.ends);
    }

skip_by : (t : SkippedType) (b : Bool) → length (cond b (t ∷ []) []) ≤ 1
skip_by t true = omega arith
skip_by t false = omega arith

-- a record is passed over once at most
pub skip_within : (passed after : List SkippedType) (d : List ℕ) → after ≡ passed ++ skips_of d → length after ≤ length passed + 1
skip_within passed after d e = omega (arith, ap length e, length-append passed (skips_of d), skip_by (skipped_type d) (is_skipped d))

-- ---- if memory may run out

cannot_by : (a b : ℕ) (p q : Bool) → ltb a (2 ^ 60) ≡ p → ltb b (2 ^ 60) ≡ q → (p && q) ≡ false → (2 ^ 60 ≤ a) ⊎ (2 ^ 60 ≤ b)
cannot_by a b false q e f h = inl (ltb-false a (2 ^ 60) e)
cannot_by a b true false e f h = inr (ltb-false b (2 ^ 60) f)
cannot_by a b true true e f h = absurd cc

pub lacks_count : (r : Reader) (n : ℕ) → can_count r.input ≡ false → IsKept n r → 2 ^ 60 ≤ n
lacks_count r n h k = elim (cannot_by r.input.offset r.input.ends (ltb r.input.offset (2 ^ 60)) (ltb r.input.ends (2 ^ 60)) refl refl h) [
  | inl a ↦ omega (arith, a, k.offset)
  | inr b ↦ omega (arith, b, k.ends)
]

starts_with : (es : List Entry) (n : List SkippedType) (f : Option TailFault) (c : Bool) (left : ℕ) (o : Option Record) (rest : List ℕ) (w later : List Piece) → 0 < length es → 0 < length (still es n f c left o rest w later).entries
unfolding still
starts_with es n f c left o rest w later h = omega (arith, h, length-append es (from_here f c left o rest (w ++ later)).entries)

pub gives_ready : (r : Reader) → 0 < length r.ready.items → GivesNext r
gives_ready r h = starts_with r.ready.items r.passed r.fault (compresses r) r.left (open_of r) r.input.rest (waiting_of r) [] h

read_at : (r : Reader) → CanStep r → still_read r [] ≡ still [] r.passed None (compresses r) r.left (open_of r) r.input.rest (waiting_of r) []
read_at r can = still_fields _ _ _ _ _ _ _ _ _ _ _ _ _ _ _ _ [] can.none_ready refl can.no_fault refl refl refl refl refl

pub gives_same : (old new : Reader) → Same old new → GivesNext old → GivesNext new
gives_same old new s g = subst (λ (x : Reading). 0 < length x.entries) (s.still_same []) g

-- a record that stores entries has a text
stored_text : (found : Option (List ℕ)) (es : List Entry) → (found then λ d. record_entries d) ≡ Some es → (d : List ℕ) × (found ≡ Some d) × (record_entries d ≡ Some es)
stored_text None es e = absurd cc
stored_text (Some d) es e = (d, refl, e)

gives_whole : (r : Reader) (n : ℕ) (kind : Kind) (x : Record) → CanStep r → item_of r ≡ fragment kind (data_at_front n r) → joined (open_of r) kind (data_at_front n r) ≡ complete x → StoresEntries x → GivesNext r
gives_whole r n kind x can found j h =
    let t = stored_text (text_of x) h.0 h.1 in
    let s = still_whole (compresses r) r.left can.reader.page r.input.rest r.passed (waiting_of r) [] (open_of r) kind (data_at_front n r) x found j t.0 h.0 t.1 t.2 in
    subst (λ (y : Reading). 0 < length y.entries) (sym (read_at r can ∙ s)) (starts_with h.0 _ _ _ _ _ _ _ _ h.2)

-- a record may lack memory to be read
lacks_by : (old new : Reader) (n k : ℕ) (x : Record) → Same old new → 7 + n ≤ length old.input.rest → (StoresEntries x → GivesNext old) → IsKept k old → StoresEntries x ⊎ (2 ^ 60 ≤ length old.passed + 1) → MayLack k new
lacks_by old new n k x s le f kept h = elim h [
  | inl e ↦ inl (gives_same old new s (f e))
  | inr c ↦ inr (omega (arith, c, le, kept.passed))
]

pub lacks_full : (old new : Reader) (is_block : Bool) (n k : ℕ) (d : List ℕ) → Same old new → FoundAt is_block full n old → IsKept k old → d ≡ data_at_front n old → StoresEntries (is_block, d) ⊎ (2 ^ 60 ≤ length old.passed + 1) → MayLack k new
lacks_full old new is_block n k d s f kept q h =
    lacks_by old new n k (is_block, d) s f.whole
    (λ e. gives_whole old n (flagged is_block full) (is_block, data_at_front n old) f.can_step f.found (joins_full old is_block n f) (subst (λ (y : List ℕ). StoresEntries (is_block, y)) q e)) kept h

pub lacks_last : (old new : Reader) (n k : ℕ) (d : List ℕ) → Same old new → FoundAt old.is_block last n old → IsKept k old → d ≡ old.begun.items ++ data_at_front n old → StoresEntries (old.is_block, d) ⊎ (2 ^ 60 ≤ length old.passed + 1)
    → MayLack k new
lacks_last old new n k d s f kept q h =
    lacks_by old new n k (old.is_block, d) s f.whole
    (λ e. gives_whole old n (flagged old.is_block last) (old.is_block, old.begun.items ++ data_at_front n old) f.can_step f.found (joins_last old n f) (subst (λ (y : List ℕ). StoresEntries (old.is_block, y)) q e)) kept h

-- the entries of a record's text are the record's
pub stores_of_text : (r : Record) (d : List ℕ) → text_of r ≡ Some d → HasEntries d → StoresEntries r
stores_of_text r d t h = (h.0, ap (λ (o : Option (List ℕ)). o then λ x. record_entries x) t ∙ h.1, h.2)

-- what came of a record's text comes of the record
pub read_if : {E : Type 0} (r : Record) (d : List ℕ) (p : List SkippedType) (es : List Entry) (p' : List SkippedType) (res : Result Bool E) → text_of r ≡ Some d → IfOk res (λ b. IsTextRead d p es p' b) → IfOk res (λ b. IsRead r p es p' b)
read_if r d p es p' (Ok b) t h = read_of_text r d p es p' b t h
read_if r d p es p' (Err e) t h = tt

pub lacks_if : {E : Type 0} (r : Record) (d : List ℕ) (n : ℕ) (res : Result Bool E) → text_of r ≡ Some d → OnErr res (HasEntries d ⊎ (2 ^ 60 ≤ n)) → OnErr res (StoresEntries r ⊎ (2 ^ 60 ≤ n))
lacks_if r d n (Ok b) t h = tt
lacks_if r d n (Err e) t (inl s) = inl (stores_of_text r d t s)
lacks_if r d n (Err e) t (inr s) = inr s

-- there is room for the data of a fragment
pub has_room : (old : Reader) (n k : ℕ) (d : List ℕ) → 7 + n ≤ length old.input.rest → d ≡ take n (drop 7 old.input.rest) → IsKept k old → length old.begun.items + length d ≤ vec_capacity old.begun
has_room old n k d le q kept =
    let l : length d ≡ n = ap length q ∙ data_length n old.input.rest le in
    omega (arith, l, le, kept.room)

-- ---- pieces

pub size_of-push : (ps : List Piece) (p : Piece) → size_of (ps ++ p ∷ []) ≡ size_of ps + size_of (p ∷ [])
size_of-push [] p = omega arith
size_of-push (bytes b ∷ ps) p = omega (arith, size_of-push ps p)
size_of-push (next_segment ∷ ps) p = omega (arith, size_of-push ps p)
size_of-push (may_compress ∷ ps) p = size_of-push ps p

pub kept_bytes : (ps : List Piece) (b : List ℕ) (r : Reader) → IsKept (size_of ps + length b) r → IsKept (size_of (ps ++ bytes b ∷ [])) r
kept_bytes ps b r k = let n : size_of ps + length b ≡ size_of (ps ++ bytes b ∷ []) = omega (arith, size_of-push ps (bytes b)) in subst (λ m. IsKept m r) n k

pub kept_next : (ps : List Piece) (r : Reader) → IsKept (size_of ps + 1) r → IsKept (size_of (ps ++ next_segment ∷ [])) r
kept_next ps r k = let n : size_of ps + 1 ≡ size_of (ps ++ next_segment ∷ []) = omega (arith, size_of-push ps next_segment) in subst (λ m. IsKept m r) n k

pub kept_taken : (old new : Reader) (n : ℕ) → new ≡ record old { ready = new.ready } → IsKept n old → IsKept n new
kept_taken old new n e k =
    kept_same old new n (ap (λ (r : Reader). r.input) e) (omega (arith, ap (λ (r : Reader). length r.begun.items) e)) (omega (arith, ap (λ (r : Reader). vec_capacity r.begun) e)) (ap (λ (r : Reader). r.passed) e) k

-- ---- what is asked of a tail

pub next_waits : (ps : List Piece) (given : List Entry) (r : Reader) → Follows ps given r → GivesNext r → length given < length (entries ps)
next_waits ps given r f g =
    let e : entries ps ≡ given ++ (still_read r []).entries = ap (λ (x : Reading). x.entries) (all_read ps given r f) in
    omega (arith, g, ap length e, length-append given (still_read r []).entries)

pub tail_lacks : (ps : List Piece) (t : Fed) (count : ℕ) (told : Option TailFault) (given : List Entry) (n : List SkippedType) (r : Reader) → record { pieces = ps; given = count; skipped = n; fault = told } ≡ t → count ≡ length given
    → Follows ps given r → MayLack (size_of ps) r → (t.given < length (entries t.pieces)) ⊎ (2 ^ 60 ≤ size_of t.pieces)
tail_lacks ps t count told given n r v c f lacks = subst (λ (x : Fed). (x.given < length (entries x.pieces)) ⊎ (2 ^ 60 ≤ size_of x.pieces)) v (elim lacks [
  | inl g ↦ inl (omega (arith, c, next_waits ps given r f g))
  | inr m ↦ inr m
])

-- a fault of the log is not out of memory
pub not_of_log : (f : TailFault) → IsOfLog (Some f) → (let e : Result (Option Entry) TailFault = Err f in e ≡ Err OutOfMemory) → ⊥
not_of_log f l e = let same : f ≡ OutOfMemory = cc in subst (λ x. IsOfLog (Some x)) same l

-- a copy has answered the same
pub copied_stuck : (old new : Reader) (told : Option TailFault) → new.fault ≡ old.fault → new.ready.items ≡ old.ready.items → IsStuck old told → IsStuck new told
copied_stuck old new None f r s = tt
copied_stuck old new (Some x) f r s = (f ∙ s.0, r ∙ s.1)

-- what was joined is cut off again
pub back_again : (xs ys zs ws : List ℕ) (n : ℕ) → ws ≡ take n zs → zs ≡ xs ++ ys → n ≡ length xs → ws ≡ xs
back_again xs ys zs ws n e f g = e ∙ ap (take n) f ∙ take-append-le n xs ys (omega (arith, g)) ∙ take_all n xs (omega (arith, g))

-- the same bytes and entries in other memory
pub same_data : (old new : Reader) → IsReader old → new.input ≡ old.input → new.left ≡ old.left → new.zeros ≡ old.zeros → new.ready.items ≡ old.ready.items → new.passed ≡ old.passed
    → new.fault ≡ old.fault → open_of new ≡ open_of old → compresses new ≡ compresses old → Same old new
same_data old new r i l z e p f o m = record {
  reader = record { page = omega (arith, l, r.page); count = omega (arith, ap length p, r.count); fault = subst IsOfLog (sym f) r.fault; zeros = known_as old new l z (ap (λ (h : Held). h.rest) i) r.zeros };
  place = place_same old new m o i l f;
  still_same = λ later.
      still_fields _ _ _ _ _ _ _ _ _ _ _ _ _ _ _ _ later (sym e) (sym p) (sym f) (sym m) (sym l) (sym o) (sym (ap (λ (h : Held). h.rest) i)) (sym (ap (λ (h : Held). waiting h.later h.ended) i));
}

-- the record that is open, of equal data
pub open_as : (old : Reader) (d : List ℕ) → d ≡ old.begun.items → open_data old.is_open old.is_block d ≡ open_of old
open_as old d e = ap (open_data old.is_open old.is_block) e

pub same_self : (r : Reader) → IsReader r → Same r r
same_self r i = record { reader = i; place = record { counts = refl; still_there = λ ends c later. refl }; still_same = λ later. refl }

pub same_then : (a b c : Reader) → Same a b → Same b c → Same a c
same_then a b c s t = record {
  reader = t.reader;
  place = record {
    counts = t.place.counts ∙ s.place.counts;
    still_there = λ ends k later. s.place.still_there ends k later ∙ t.place.still_there ends (λ m. s.place.counts ∙ k (omega (arith, m, s.place.counts))) later;
  };
  still_same = λ later. s.still_same later ∙ t.still_same later;
}

-- a tail whose reader has gone on
pub tail_same : (old new : Reader) (ps : List Piece) (given : List Entry) (count : ℕ) (told now : Option TailFault) → IsTail old ps given count told → Same old new → IsKept (size_of ps) new → IsStuck new now → IsTail new ps given count now
tail_same old new ps given count told now i s k stuck = record { follows = follows_same ps given old new i.follows s; counted = i.counted; bound = i.bound; stuck = stuck; kept = k }
