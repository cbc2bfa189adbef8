-- The segments of a log, read one after the other.
use Rattle.std.proofs.Common.{◌≡◌, ℕ, ◌+◌, ◌<◌, List, [], ◌∷◌, ◌++◌, length, drop, get_or, Option, Some, None, Result, Ok, Err, IfOk, IfErr, refl, sym, ap, ◌∙◌, subst, append_assoc, arith}
use Rattle.std.specs.List.{AllByRecursion}
use Rattle.std.proofs.lemmas.List.{get_or_append_left, length-append}
use Rattle.std.proofs.Math.Seq.{take-length, drop-nil, get_or-append_seam}
use Rattle.rw_types.proofs.shared.AllLemmas.{AllByRecursion-append}
use Rattle.rw_types.specs.declared.entry.Entry.{Entry}
use Rattle.rw_kept_log.specs.Journal.{Segments}
use Rattle.rw_wal_format.specs.Segments.{segment, item_at, segment_in}
use Rattle.rw_wal_format.specs.Pieces.{fault, page_size, reading}
use Rattle.rw_kept_log.specs.Logs.{entries_of, IsWholeText}
use Rattle.rw_kept_log.specs.TornLogs.{last_of, AllBefore}
use Rattle.rw_kept_log.proofs.shared.ClosingLemmas.{front_of, nothing_read}
use Rattle.rw_kept_log.proofs.shared.CutLemmas.{no_fault}
use Rattle.rw_kept_log.proofs.shared.OpeningLemmas.{before_of}
use Rattle.rw_kept_log.specs.Torn.{end_of_page}
use Rattle.rw_kept_log.specs.Reading.{HasFault, greatest_after, ended}
use Rattle.rw_kept_log.specs.Records.{IsRecordAt, IsRecordAfter, FollowsFault}
use Rattle.rw_kept_log.proofs.RecordAtLemmas.{nothing_follows}
use Rattle.rw_kept_log.specs.Reopening.{HasRecordAfter, IsDamage, IsSegmentCut, IsEnd}
use Rattle.rw_kept_log.specs.inner.Reopening.{EndsLog, IsFaultAt, IsFaultBefore, IsFaultIn, IsFoundOf, IsLast, IsReadBefore, IsReadTo, IsRefusal, IsTornOf, IsWholeSoFar}
use Rattle.rw_kept_log.specs.declared.error.KeptLogDamage.{KeptLogDamage}
use Rattle.rw_kept_log.specs.declared.last_segment.LastSegment.{LastSegment}
use Rattle.rw_kept_log.specs.declared.log_reading.ReadEnd.{ReadEnd}

-- a segment that ends without a fault is whole
pub is_whole : (text : List ℕ) → fault (ended text) ≡ None → IsWholeText page_size text
unfolding reading
is_whole text sound = no_fault (segment page_size text).stop (segment page_size text) (segment page_size []) refl sound

-- a whole segment is cut at its end
pub cut_at_end : (text : List ℕ) → IsWholeText page_size text → IsSegmentCut text (length text)
cut_at_end text whole = record {
  clean = record {
    within = omega arith;
    keeps = ap (λ (t : List ℕ). (segment page_size t).entries) (take-length text);
    whole = subst (IsWholeText page_size) (sym (take-length text)) whole;
  };
  in_page = λ lt. absurd (omega (arith, lt));
}

-- a log of no segments
pub no_entries : (page : ℕ) → entries_of page [] ≡ []
unfolding reading
no_entries page = nothing_read page

pub none_of : (ss : Segments) → ss ≡ [] → entries_of page_size ss ≡ []
none_of ss empty = ap (entries_of page_size) empty ∙ no_entries page_size

nothing_whole : IsWholeText page_size []
unfolding segment_in item_at
nothing_whole = refl

-- the end of a log of no segments
pub ends_nowhere : (ss : Segments) (end : ReadEnd) → ss ≡ [] → end.whole ≡ 0 → end.torn.items ≡ [] → end.follows ≡ None → end.greatest ≡ 0 → IsEnd ss end
ends_nowhere ss end empty at torn follows greatest = record {
  cut = subst (λ (s : Segments). IsSegmentCut (last_of s) end.whole) (sym empty) (subst (IsSegmentCut []) (sym at) (cut_at_end [] nothing_whole));
  torn = torn ∙ sym (ap (λ (s : Segments). drop end.whole (last_of s)) empty ∙ drop-nil end.whole);
  follows = subst (λ (s : Segments). FollowsFault (last_of s) end.follows) (sym empty) (subst (FollowsFault []) (sym follows) nothing_follows);
  greatest = greatest ∙ sym (ap (greatest_after 0) (none_of ss empty));
}

-- one more segment adds its entries
pub one_more : (page : ℕ) (done : Segments) (t : List ℕ) → AllByRecursion (IsWholeText page) done → entries_of page (done ++ t ∷ []) ≡ entries_of page done ++ (segment page t).entries
unfolding reading
one_more page [] t all = sym (ap (λ (es : List Entry). es ++ (segment page t).entries) (no_entries page))
one_more page (d ∷ []) t all = front_of page d t [] all.0
one_more page (d ∷ e ∷ ds) t all =
    front_of page d e (ds ++ t ∷ []) all.0 ∙ ap (λ (es : List Entry). (segment page d).entries ++ es) (one_more page (e ∷ ds) t all.1)
    ∙ sym (append_assoc (segment page d).entries (entries_of page (e ∷ ds)) (segment page t).entries) ∙ ap (λ (es : List Entry). es ++ (segment page t).entries) (sym (front_of page d e ds all.0))

pub last_is : (done : Segments) (t : List ℕ) → last_of (done ++ t ∷ []) ≡ t
last_is [] t = refl
last_is (d ∷ []) t = refl
last_is (d ∷ e ∷ ds) t = last_is (e ∷ ds) t

-- before the first segment
pub nothing_before : (ss : Segments) (now : List Entry) → (ss ≡ []) × (now ≡ []) → IsWholeSoFar ss now
nothing_before ss now none = record {
  taken = none.1 ∙ sym (none_of ss none.0);
  whole = subst (AllByRecursion (IsWholeText page_size)) (sym none.0) tt;
}

-- the last one is whole, so a next one may follow
whole_before : (ss : Segments) (now : List Entry) (l : LastSegment) → IsReadTo ss now l → l.fault ≡ None → IsWholeSoFar ss now
whole_before ss now l h sound = record {
  taken = h.taken;
  whole = subst (AllByRecursion (IsWholeText page_size)) (sym h.all)
      (AllByRecursion-append (IsWholeText page_size) h.done (h.text ∷ []) h.whole (is_whole h.text (subst (IsFaultAt h.text (length h.done)) sound h.found.fault_is), tt));
}

-- the last one is this segment
here : (ss done : Segments) (text : List ℕ) (n : ℕ) → ss ≡ done ++ text ∷ [] → n ≡ length done → get_or ss n [] ≡ text
here ss done text n all is = ap (λ (s : Segments). get_or s n []) all ∙ ap (λ (k : ℕ). get_or (done ++ text ∷ []) k []) is ∙ get_or-append_seam done text [] []

count_of : (ss done : Segments) (text : List ℕ) → ss ≡ done ++ text ∷ [] → length ss ≡ length done + 1
count_of ss done text all = ap length all ∙ length-append done (text ∷ [])

-- the last one is not whole
fault_in : (ss : Segments) (now : List Entry) (l : LastSegment) (d : KeptLogDamage) → IsReadTo ss now l → l.fault ≡ Some d → IsFaultIn ss d
fault_in ss now l d h is =
    let at : IsFaultAt h.text (length h.done) (Some d) = subst (IsFaultAt h.text (length h.done)) is h.found.fault_is in
    record {
      within = omega (arith, at.0, count_of ss h.done h.text h.all);
      has = subst (λ (t : List ℕ). HasFault t d.fault d.place.offset) (sym (here ss h.done h.text d.place.segment h.all at.0)) at.1;
    }

last_before : (ss : Segments) (now : List Entry) (l : LastSegment) (found : Option KeptLogDamage) → l.fault ≡ found → IsReadTo ss now l → IsReadBefore ss now found
last_before ss now l None is h = whole_before ss now l h is
last_before ss now l (Some d) is h = fault_in ss now l d h is

-- what was found says whether a next one may follow
pub before_next : (ss : Segments) (now : List Entry) (l : LastSegment) → IsReadTo ss now l → IsReadBefore ss now l.fault
before_next ss now l h = last_before ss now l l.fault refl h

pub broken_before : (ss : Segments) (d : KeptLogDamage) → IsFaultBefore ss d → IsFaultIn ss d
broken_before ss d h = record { within = omega (arith, h.within); has = h.has }

-- a next segment comes after one that is not whole
pub stays_broken : (ss : Segments) (text : List ℕ) (d : KeptLogDamage) → IsFaultIn ss d → IsFaultBefore (ss ++ text ∷ []) d
stays_broken ss text d h = record {
  within = omega (arith, h.within, length-append ss (text ∷ []));
  has = subst (λ (t : List ℕ). HasFault t d.fault d.place.offset) (sym (get_or_append_left ss (text ∷ []) [] d.place.segment h.within)) h.has;
}

-- a next segment is read after whole ones
pub read_on : (ss : Segments) (text : List ℕ) (n : ℕ) (l : LastSegment) (now after : List Entry) → n ≡ length ss → IsWholeSoFar ss now → IsLast text n l now after → IsReadTo (ss ++ text ∷ []) after l
read_on ss text n l now after is h last = record {
  done = ss;
  text = text;
  all = refl;
  whole = h.whole;
  found = subst (λ (k : ℕ). IsFoundOf text k l) is last.found;
  taken = last.taken ∙ ap (λ (es : List Entry). es ++ (segment page_size text).entries) h.taken ∙ sym (one_more page_size ss text h.whole);
}

-- the end of a log of no segments
pub ends_empty : (ss : Segments) (now : List Entry) (high : ℕ) (end : ReadEnd) → high ≡ greatest_after 0 now → (ss ≡ []) × (now ≡ []) → end.whole ≡ 0 → end.torn.items ≡ [] → end.follows ≡ None → end.greatest ≡ high → EndsLog ss now end
ends_empty ss now high end most none at torn follows greatest = record {
  taken = none.1 ∙ sym (none_of ss none.0);
  end_is = ends_nowhere ss end none.0 at torn follows (greatest ∙ most ∙ ap (greatest_after 0) none.1);
  whole = subst (AllBefore (IsWholeText page_size)) (sym none.0) tt;
}

-- the end of a log whose last segment is cut
pub ends_cut : (ss : Segments) (now : List Entry) (high : ℕ) (l : LastSegment) (end : ReadEnd) → high ≡ greatest_after 0 now → IsReadTo ss now l → l.cut ≡ Ok end.whole → end.torn.items ≡ l.torn.items → end.follows ≡ l.follows → end.greatest ≡ high → EndsLog ss now end
ends_cut ss now high l end most h cut torn follows greatest =
    let last : last_of ss ≡ h.text = ap last_of h.all ∙ last_is h.done h.text in
    record {
      taken = h.taken;
      end_is = record {
        cut = subst (λ (t : List ℕ). IsSegmentCut t end.whole) (sym last) (subst (λ (r : Result ℕ KeptLogDamage). IfOk r (IsSegmentCut h.text)) cut h.found.cut);
        torn = torn ∙ subst (λ (r : Result ℕ KeptLogDamage). IsTornOf h.text r l.torn.items) cut h.found.torn_is ∙ ap (drop end.whole) (sym last);
        follows = subst (λ (t : List ℕ). FollowsFault t end.follows) (sym last) (subst (FollowsFault h.text) (sym follows) h.found.follows);
        greatest = greatest ∙ most ∙ ap (greatest_after 0) h.taken;
      };
      whole = subst (AllBefore (IsWholeText page_size)) (sym h.all) (before_of (IsWholeText page_size) h.done h.text h.whole);
    }

-- the last segment is damaged
pub last_damaged : (ss : Segments) (now : List Entry) (l : LastSegment) (d : KeptLogDamage) → IsReadTo ss now l → l.cut ≡ Err d → IsDamage ss d
last_damaged ss now l d h cut =
    let refusal : IsRefusal h.text (length h.done) d = subst (λ (r : Result ℕ KeptLogDamage). IfErr r (IsRefusal h.text (length h.done))) cut h.found.refusal in
    let is : get_or ss d.place.segment [] ≡ h.text = here ss h.done h.text d.place.segment h.all refusal.0 in
    record {
      within = omega (arith, refusal.0, count_of ss h.done h.text h.all);
      has = subst (λ (t : List ℕ). HasFault t d.fault d.place.offset) (sym is) refusal.1;
      goes_on = λ _. subst (λ (t : List ℕ). end_of_page page_size d.place.offset < length t) (sym is) refusal.2;
    }

-- an earlier segment is damaged
pub broken_damaged : (ss : Segments) (d : KeptLogDamage) → IsFaultBefore ss d → IsDamage ss d
broken_damaged ss d h = record { within = omega (arith, h.within); has = h.has; goes_on = λ is. absurd (omega (arith, is, h.within)) }

-- a whole record follows the fault of the last segment
pub record_follows : (ss : Segments) (now : List Entry) (l : LastSegment) (d : KeptLogDamage) (at : ℕ) → IsReadTo ss now l → l.fault ≡ Some d → l.follows ≡ Some at → HasRecordAfter ss d at
record_follows ss now l d at h is follows =
    let fault_is : IsFaultAt h.text (length h.done) (Some d) = subst (IsFaultAt h.text (length h.done)) is h.found.fault_is in
    let found : IsRecordAfter h.text d.place.offset (Some at) = subst (IsRecordAfter h.text d.place.offset) follows (h.found.follows d.fault d.place.offset fault_is.1) in
    let last : last_of ss ≡ h.text = ap last_of h.all ∙ last_is h.done h.text in
    record {
      last = omega (arith, fault_is.0, count_of ss h.done h.text h.all);
      has = subst (λ (t : List ℕ). HasFault t d.fault d.place.offset) (sym last) fault_is.1;
      after = found.0;
      record_at = subst (λ (t : List ℕ). IsRecordAt t at) (sym last) found.1;
    }
