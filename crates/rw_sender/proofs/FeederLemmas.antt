-- What a feeder keeps, with one entry more.
use Rattle.std.proofs.Common.{◌≡◌, ◌⊎◌, inl, inr, ℕ, ℤ, ◌+◌, ◌^◌, ◌<◌, ◌≤◌, true, false, Result, Ok, Err, cond, List, [], ◌∷◌, ◌++◌, length, take, Option, None, Some, refl, sym, ap, ◌∙◌, subst, append-nil, length-append, add-zero, arith}
use Rattle.std.specs.Prelude.{fold, drop}
use Rattle.std.proofs.lemmas.List.{length-map, map-append}
use Rattle.std.proofs.lemmas.List.Sums.{fold-append}
use Rattle.std.specs.Cmp.{nat_cmp_total}
use Rattle.std.specs.Ordering.{nat_cmp}
use Rattle.std.specs.FinMap.{FinMap, empty, get, insert, get-insert, get-empty}
use Rattle.rw_types.specs.declared.entry.Entry.{Entry}
use Rattle.rw_types.specs.declared.entry.Entry.TheVariants.{Def, Sample}
use Rattle.rw_types.specs.Labels.{Labels}
use Rattle.rw_external_labels.specs.External.{labelled, labelled_entry}
use Rattle.rw_wal_format.specs.Pieces.{Piece, entries, fault}
use Rattle.rw_wal_format.specs.declared.tail_fault.TailFault.{TailFault}
use Rattle.rw_ledger.specs.declared.ledger.Reason.{Reason}
use Rattle.rw_relabel.specs.declared.choice.Choice.{Choice}
use Rattle.rw_series_cache.specs.Fates.{Fate, Drops, Filters, Sends, fate}
use Rattle.rw_series_cache.specs.Routing.{Routing, Knows, Routes, RoutesAs, IsSentNext}
use Rattle.rw_series_cache.specs.declared.router.Routed.TheVariants as routed
use Rattle.rw_series_cache.specs.declared.sample.RoutedSample.{RoutedSample}
use Rattle.rw_wal_format.specs.declared.tail_fault.TailFault.TheVariants.{OutOfMemory}
use Rattle.rw_wal_tail.specs.Fed.{Fed, size_of, is_out_of_memory}
use Rattle.rw_wal_tail.specs.Taking.{HasTaken, HasRead, HasTakenAll, TakesNext}
use Rattle.rw_sender.specs.Logs.{Sent, kept_sample, sent_by_fate, sent_of, with_name, named, dropped, dropped_by_fate, dropped_of, filtered, filtered_by_fate, filtered_of}
use Rattle.rw_types.specs.Beginnings.{Begins}
use Rattle.rw_sender.specs.Feeders.{Sorting, HasReadAll, log_of, sent_by}
use Rattle.rw_sender.specs.inner.Feeders.{IsFeeder}
use Rattle.rw_types.proofs.shared.GatherLemmas.{gather-push}
use Rattle.rw_sender.proofs.HeldLemmas.{held_more, held_placed}
use Rattle.rw_types.proofs.shared.TimeLemmas.{nat_cmp-apart}

-- entries with the external labels are as many as without
labelled-length : (labels : Labels) (es : List Entry) → length (labelled labels es) ≡ length es
labelled-length labels es = length-map es (labelled_entry labels)

labelled-append : (labels : Labels) (es more : List Entry) → labelled labels (es ++ more) ≡ labelled labels es ++ labelled labels more
labelled-append labels es more = map-append (labelled_entry labels) es more

-- the entry in hand was placed
placed_next : (labels : Labels) (tail : Fed) (router after : Routing) (names now : FinMap nat_cmp Reason) (n m : ℕ) (ps hand : List Entry) (e : Entry) → IsFeeder labels tail router names n ps hand → labelled labels hand ≡ e ∷ [] → m ≡ tail.given → after.cache.choice ≡ router.cache.choice
    → Knows (labelled labels ps ++ e ∷ []) after.cache → now ≡ fold with_name names (dropped_of router.cache.choice (labelled labels ps) e) → ((p : ℕ) → n < p → get now p ≡ None) → after.filtered ≡ router.filtered + length (filtered_of router.cache.choice (labelled labels ps) e) → after.filtered ≤ n + 1
    → IsFeeder labels tail after now m (ps ++ hand) []
placed_next labels tail router after names now n m ps hand e h is up choice knows names_are below counted within =
    let given = h.taken.count in
    let len = length-append ps hand in
    let one : length hand ≡ 1 = sym (labelled-length labels hand) ∙ ap length is in
    let count = h.counted in
    let ls = labelled labels ps in
    let all : labelled labels (ps ++ hand) ≡ ls ++ e ∷ [] = labelled-append labels ps hand ∙ ap (λ x. ls ++ x) is in
    let drops : dropped after.cache.choice (labelled labels (ps ++ hand)) ≡ dropped router.cache.choice ls ++ dropped_of router.cache.choice ls e = ap (λ r. dropped r (labelled labels (ps ++ hand))) choice ∙ ap (dropped router.cache.choice) all ∙ gather-push (dropped_of router.cache.choice) ls e in
    let filters : filtered after.cache.choice (labelled labels (ps ++ hand)) ≡ filtered router.cache.choice ls ++ filtered_of router.cache.choice ls e = ap (λ r. filtered r (labelled labels (ps ++ hand))) choice ∙ ap (filtered router.cache.choice) all ∙ gather-push (filtered_of router.cache.choice) ls e in
    record {
      taken = subst (HasTaken tail) (sym (append-nil (ps ++ hand))) h.taken;
      counted = up ∙ given;
      knows = subst (λ es. Knows es after.cache) (sym all) knows;
      names_are = names_are ∙ ap (λ x. fold with_name x (dropped_of router.cache.choice ls e)) h.names_are ∙ sym (ap named drops ∙ fold-append with_name empty (dropped router.cache.choice ls) (dropped_of router.cache.choice ls e));
      below = λ p le. below p (omega arith);
      filter_counted = counted ∙ ap (λ k. k + length (filtered_of router.cache.choice ls e)) h.filter_counted ∙ sym (ap length filters ∙ length-append (filtered router.cache.choice ls) (filtered_of router.cache.choice ls e));
      filter_within = omega arith;
    }

pub placed_held : (labels : Labels) (tail : Fed) (router after : Routing) (names now : FinMap nat_cmp Reason) (n m : ℕ) (r : List Entry) (e : Entry) → IsFeeder labels tail router names n (take n r) (drop n r) → labelled labels (drop n r) ≡ e ∷ [] → m ≡ tail.given → after.cache.choice ≡ router.cache.choice
    → Knows (labelled labels (take n r) ++ e ∷ []) after.cache → now ≡ fold with_name names (dropped_of router.cache.choice (labelled labels (take n r)) e) → ((p : ℕ) → n < p → get now p ≡ None) → after.filtered ≡ router.filtered + length (filtered_of router.cache.choice (labelled labels (take n r)) e) → after.filtered ≤ n + 1
    → IsFeeder labels tail after now m (take m r) (drop m r)
placed_held labels tail router after names now n m r e h is up choice knows names_are below counted within =
    let q = held_placed n m r (up ∙ h.taken.count) in
    rw (q.0, q.1) (placed_next labels tail router after names now n m (take n r) (drop n r) e h is up choice knows names_are below counted within)

-- what contracts see of a feeder
abbrev pub seen_as : Choice → Labels → List Piece → List Entry → List Entry → Sorting
seen_as choice labels pieces ps hand = record { choice = choice; labels = labels; pieces = pieces; placed = labelled labels ps; hand = labelled labels hand }

-- and is what contracts see
pub placed_seen : (labels : Labels) (tail : Fed) (router after : Routing) (names : FinMap nat_cmp Reason) (n m : ℕ) (r : List Entry) (old : Sorting) → IsFeeder labels tail router names n (take n r) (drop n r) → m ≡ tail.given → after.cache.choice ≡ router.cache.choice
    → seen_as router.cache.choice labels tail.pieces (take n r) (drop n r) ≡ old
    → seen_as after.cache.choice labels tail.pieces (take m r) (drop m r) ≡ (record old { placed = old.placed ++ old.hand; hand = [] })
placed_seen labels tail router after names n m r old h up choice seen =
    let q = held_placed n m r (up ∙ h.taken.count) in
    let front : labelled labels (take m r) ≡ labelled labels (take n r) ++ labelled labels (drop n r) = ap (labelled labels) q.0 ∙ labelled-append labels (take n r) (drop n r) in
    let none = ap (labelled labels) q.1 in
    let now : ◌≡◌ {A = Sorting} (seen_as after.cache.choice labels tail.pieces (take m r) (drop m r)) (record { choice = router.cache.choice; labels = labels; pieces = tail.pieces; placed = labelled labels (take n r) ++ labelled labels (drop n r); hand = [] }) =
    λ i. record { choice = choice i; labels = labels; pieces = tail.pieces; placed = front i; hand = none i } in
    now ∙ ap (λ (s : Sorting). record s { placed = s.placed ++ s.hand; hand = [] }) seen

-- another reader, as far with the same entries
pub same_taken : (labels : Labels) (tail after : Fed) (router : Routing) (names : FinMap nat_cmp Reason) (n : ℕ) (ps hand : List Entry) → IsFeeder labels tail router names n ps hand → HasTaken after (ps ++ hand) → IsFeeder labels after router names n ps hand
same_taken labels tail after router names n ps hand h taken = record {
  taken = taken;
  counted = h.counted;
  knows = h.knows;
  names_are = h.names_are;
  below = h.below;
  filter_counted = h.filter_counted;
  filter_within = h.filter_within;
}

-- a name for the next position leaves those after it without one
pub named_below : (names now : FinMap nat_cmp Reason) (n : ℕ) (reason : Reason) → ((p : ℕ) → n ≤ p → get names p ≡ None) → now ≡ insert names n reason → (p : ℕ) → n < p → get now p ≡ None
named_below names now n reason h is p lt =
    ap (λ m. get m p) is ∙ get-insert nat_cmp_total names n reason p ∙ ap (λ b. cond b (Some reason) (get names p)) (nat_cmp-apart n p lt) ∙ h p (omega arith)

-- an entry that the router placed
pub router_placed : (router after : Routing) (ps : List Entry) (pos : ℕ) (e : Entry) → Routes router ps pos e after routed.Placed
    → (after.cache.choice ≡ router.cache.choice) × (dropped_of router.cache.choice ps e ≡ []) × (sent_of router.cache.choice ps e ≡ []) × (after.filtered ≡ router.filtered + length (filtered_of router.cache.choice ps e)) × (after.filtered ≤ router.filtered + 1)
router_placed router after ps pos (Def reference l) is =
    let same = ap (λ (x : Routing). x.filtered) is.1 in
    (ap (λ (x : Routing). x.cache.choice) is.1, refl, refl, same ∙ sym (add-zero router.filtered), omega arith)
router_placed router after ps pos (Sample reference t word) is = by_fate (fate router.cache.choice ps reference t) is
  where
    by_fate : (f : Fate) → RoutesAs router ps pos t word f after routed.Placed
        → (after.cache.choice ≡ router.cache.choice) × (dropped_by_fate (length ps) f ≡ []) × (sent_by_fate router.cache.choice ps t word f ≡ []) × (after.filtered ≡ router.filtered + length (filtered_by_fate (length ps) f)) × (after.filtered ≤ router.filtered + 1)
    by_fate (Drops reason) is = absurd is
    by_fate Filters is =
        let more = ap (λ (x : Routing). x.filtered) is in
        (ap (λ (x : Routing). x.cache.choice) is, refl, refl, omega arith, omega arith)
    by_fate (Sends l) is = absurd is

-- a sample that the router returned to be sent
pub router_sends : (router after : Routing) (ps : List Entry) (pos : ℕ) (e : Entry) (s : RoutedSample) → pos ≡ length ps → Routes router ps pos e after (routed.Sample s)
    → (after ≡ router) × (sent_of router.cache.choice ps e ≡ sent_by s ∷ []) × IsSentNext router.cache.choice ps e s.series s.t
router_sends router after ps pos (Def reference l) s at is = absurd (cc)
router_sends router after ps pos (Sample reference t word) s at is = by_fate (fate router.cache.choice ps reference t) refl is
  where
    by_fate : (f : Fate) → fate router.cache.choice ps reference t ≡ f → RoutesAs router ps pos t word f after (routed.Sample s)
        → (after ≡ router) × (sent_by_fate router.cache.choice ps t word f ≡ sent_by s ∷ []) × IsSentNext router.cache.choice ps (Sample reference t word) s.series s.t
    by_fate (Drops why) e is = absurd is
    by_fate Filters e is = absurd is
    by_fate (Sends l) e is =
        let h = is.0 in
        let same : ◌≡◌ {A = Sent} (kept_sample router.cache.choice ps t word l) (sent_by s) =
        λ i. record { pos = (sym at ∙ sym h.pos_is) i; series = sym h.numbered.numbered i; t = sym h.time i; word = sym h.word_is i; labels = sym h.labels_are i } in
        (is.1, ap (λ (x : Sent). x ∷ []) same, (sym h.time, (l, ap (fate router.cache.choice ps reference) h.time ∙ e, h.numbered)))

-- a sample that is dropped is named, and not counted
pub dropped_is : (choice : Choice) (ps : List Entry) (reference : ℕ) (t : ℤ) (word : ℕ) (reason : Reason) → fate choice ps reference t ≡ Drops reason
    → (dropped_of choice ps (Sample reference t word) ≡ (length ps, reason) ∷ []) × (filtered_of choice ps (Sample reference t word) ≡ []) × (sent_of choice ps (Sample reference t word) ≡ [])
dropped_is choice ps reference t word reason is = (ap (dropped_by_fate (length ps)) is, ap (filtered_by_fate (length ps)) is, ap (sent_by_fate choice ps t word) is)

-- a sample that is sent is named nowhere
pub sent_is : (choice : Choice) (ps : List Entry) (e : Entry) (series : ℕ) (t : ℤ) → IsSentNext choice ps e series t → (dropped_of choice ps e ≡ []) × (filtered_of choice ps e ≡ [])
sent_is choice ps (Def reference l) series t next = absurd next
sent_is choice ps (Sample reference u word) series t next =
    let is = ap (fate choice ps reference) next.0 ∙ next.1.1 in
    (ap (dropped_by_fate (length ps)) is, ap (filtered_by_fate (length ps)) is)

-- no entries, if there are none with the external labels
labelled_none : (labels : Labels) (es : List Entry) → labelled labels es ≡ [] → es ≡ []
labelled_none labels [] is = refl
labelled_none labels (e ∷ es) is = absurd (cc)

-- as many entries are placed as contracts see
pub counted_seen : (labels : Labels) (n : ℕ) (ps : List Entry) → n ≡ length ps → n ≡ length (labelled labels ps)
counted_seen labels n ps is = is ∙ sym (labelled-length labels ps)

-- an entry was read
pub read_next : (labels : Labels) (tail after : Fed) (router : Routing) (names : FinMap nat_cmp Reason) (n : ℕ) (r now : List Entry) (e : Entry) → IsFeeder labels tail router names n (take n r) (drop n r) → labelled labels (drop n r) ≡ [] → now ≡ r ++ e ∷ [] → HasTaken after ((take n r ++ drop n r) ++ e ∷ [])
    → IsFeeder labels after router names n (take n now) (drop n now)
read_next labels tail after router names n r now e h empty is taken =
    let none = labelled_none labels (drop n r) empty in
    let q = held_more n r e none h.counted in
    let whole : (take n r ++ drop n r) ++ e ∷ [] ≡ take n r ++ e ∷ [] = ap (λ x. (take n r ++ x) ++ e ∷ []) none ∙ ap (λ y. y ++ e ∷ []) (append-nil (take n r)) in
    let next : IsFeeder labels after router names n (take n r) (e ∷ []) = same_hand (subst (HasTaken after) whole taken) in
    subst (λ x. IsFeeder labels after router names n (take n x) (drop n x)) (sym is) (subst (λ (x : List Entry × List Entry). IsFeeder labels after router names n x.0 x.1) (λ i. (sym q.0 i, sym q.1 i)) next)
  where
    same_hand : HasTaken after (take n r ++ e ∷ []) → IsFeeder labels after router names n (take n r) (e ∷ [])
    same_hand t = record {
      taken = t;
      counted = h.counted;
      knows = h.knows;
      names_are = h.names_are;
      below = h.below;
      filter_counted = h.filter_counted;
      filter_within = h.filter_within;
    }

-- and is what contracts see
pub next_seen : (labels : Labels) (tail after : Fed) (router : Routing) (names : FinMap nat_cmp Reason) (n : ℕ) (r now : List Entry) (e : Entry) (old : Sorting) → IsFeeder labels tail router names n (take n r) (drop n r) → labelled labels (drop n r) ≡ [] → now ≡ r ++ e ∷ [] → after.pieces ≡ tail.pieces
    → seen_as router.cache.choice labels tail.pieces (take n r) (drop n r) ≡ old
    → seen_as router.cache.choice labels after.pieces (take n now) (drop n now) ≡ (record old { hand = labelled_entry old.labels e ∷ [] })
next_seen labels tail after router names n r now e old h empty is pieces seen =
    let none = labelled_none labels (drop n r) empty in
    let q = held_more n r e none h.counted in
    let front = ap (labelled labels) (ap (take n) is ∙ q.0) in
    let hand = ap (labelled labels) (ap (drop n) is ∙ q.1) in
    let parts : ◌≡◌ {A = Sorting} (seen_as router.cache.choice labels after.pieces (take n now) (drop n now)) (record { choice = router.cache.choice; labels = labels; pieces = tail.pieces; placed = labelled labels (take n r); hand = labelled_entry labels e ∷ [] }) =
    λ i. record { choice = router.cache.choice; labels = labels; pieces = pieces i; placed = front i; hand = hand i } in
    parts ∙ ap (λ (s : Sorting). record s { hand = labelled_entry s.labels e ∷ [] }) seen

pub end_seen : (choice : Choice) (labels : Labels) (pieces now : List Piece) (ps hand : List Entry) (old : Sorting) → now ≡ pieces → seen_as choice labels pieces ps hand ≡ old
    → seen_as choice labels now ps hand ≡ old
end_seen choice labels pieces now ps hand old same seen = ap (λ (p : List Piece). seen_as choice labels p ps hand) same ∙ seen

pub read_all : (choice : Choice) (labels : Labels) (pieces : List Piece) (ps hand : List Entry) (old : Sorting) (found : Option TailFault) → HasRead pieces (ps ++ hand) found → labelled labels hand ≡ [] → seen_as choice labels pieces ps hand ≡ old
    → HasReadAll old found
read_all choice labels pieces ps hand old found h empty seen =
    let none = labelled_none labels hand empty in
    subst (λ (s : Sorting). HasReadAll s found) seen (record {
      all = ap (labelled labels) (sym (ap (λ x. ps ++ x) none ∙ append-nil ps) ∙ h.all);
      fault_is = h.fault_is;
    })

-- what was placed and what is in hand is a prefix of the log
pub begins_seen : (choice : Choice) (labels : Labels) (t : Fed) (ps hand : List Entry) (old : Sorting) → HasTaken t (ps ++ hand) → seen_as choice labels t.pieces ps hand ≡ old → Begins (old.placed ++ old.hand) (log_of old)
begins_seen choice labels t ps hand old h seen =
    subst (λ (s : Sorting). Begins (s.placed ++ s.hand) (log_of s)) seen
    (labelled labels h.rest, ap (labelled labels) h.begins ∙ labelled-append labels (ps ++ hand) h.rest ∙ ap (λ es. es ++ labelled labels h.rest) (labelled-append labels ps hand))

-- a name for the next position
pub named_next : (names roomed now : FinMap nat_cmp Reason) (n pos : ℕ) (reason : Reason) (ds : List (ℕ × Reason)) → roomed ≡ names → now ≡ insert roomed n reason → n ≡ pos → ds ≡ (pos, reason) ∷ [] → now ≡ fold with_name names ds
named_next names roomed now n pos reason ds a b counted is =
    b ∙ ap (λ m. insert m n reason) a ∙ ap (λ k. insert names k reason) counted ∙ sym (ap (fold with_name names) is)

pub no_more : (fc : ℕ) (fs : List ℕ) → fs ≡ [] → fc ≡ fc + length fs
no_more fc fs is = sym (ap (λ l. fc + length l) is ∙ add-zero fc)

-- before the first piece
pub feeder_begun : (labels : Labels) (tail : Fed) (router : Routing) (names : FinMap nat_cmp Reason) (r : List Entry) → HasTaken tail [] → Knows [] router.cache → router.filtered ≡ 0 → names ≡ empty → r ≡ [] → IsFeeder labels tail router names 0 (take 0 r) (drop 0 r)
feeder_begun labels tail router names r t knows none m is = subst (IsFeeder labels tail router names 0 []) (sym is) (record {
  taken = t;
  counted = refl;
  knows = knows;
  names_are = m;
  below = λ p le. ap (λ x. get x p) m ∙ get-empty nat_cmp p;
  filter_counted = none;
  filter_within = omega (arith, none);
})

-- what a reader says
abbrev pub Said : Type 0
Said = Result (Option Entry) TailFault

pub took_entry : (taken : List Entry) (new : Fed) (said : Said) (e : Entry) → TakesNext taken said new → said ≡ Ok (Some e) → HasTaken new (taken ++ e ∷ [])
took_entry taken new said e h is = subst (λ (r : Said). TakesNext taken r new) is h

pub took_none : (taken : List Entry) (new : Fed) (said : Said) → TakesNext taken said new → said ≡ Ok None → HasTakenAll new taken None
took_none taken new said h is = subst (λ (r : Said). TakesNext taken r new) is h

pub took_fault : (taken : List Entry) (new : Fed) (said : Said) (f : TailFault) → TakesNext taken said new → said ≡ Err f → HasTaken new taken × (is_out_of_memory f ≡ false → HasTakenAll new taken (Some f))
took_fault taken new said f h is = subst (λ (r : Said). TakesNext taken r new) is h

-- the same of the pieces as they were before
pub read_of : (pieces : List Piece) (taken : List Entry) (new : Fed) (found : Option TailFault) → HasTakenAll new taken found → new.pieces ≡ pieces → HasRead pieces taken found
read_of pieces taken new found h same = subst (λ (ps : List Piece). HasRead ps taken found) same h.read

refused : (f : TailFault) → is_out_of_memory f ≡ true → f ≡ OutOfMemory
refused OutOfMemory e = refl
refused f e = absurd cc

-- memory runs out only if an entry comes next, or at the end of a count
pub read_refused : (choice : Choice) (labels : Labels) (t : Fed) (placed hand : List Entry) (s : Sorting) (said : Said) (f : TailFault) → seen_as choice labels t.pieces placed hand ≡ s
    → HasTaken t (placed ++ hand) → said ≡ Err f → is_out_of_memory f ≡ true → (said ≡ Err OutOfMemory → (t.given < length (entries t.pieces)) ⊎ (2 ^ 60 ≤ size_of t.pieces))
    → (length s.placed < length (entries s.pieces)) ⊎ (2 ^ 60 ≤ size_of s.pieces)
read_refused choice labels t placed hand s said f v h is out certain =
    subst (λ (x : Sorting). (length x.placed < length (entries x.pieces)) ⊎ (2 ^ 60 ≤ size_of x.pieces)) v
    (elim (certain (is ∙ ap Err (refused f out))) [
      | inl more ↦ inl (omega (arith, more, h.count, length-append placed hand, labelled-length labels placed))
      | inr end ↦ inr end
    ])
