-- What a log says of a head: as it goes on, as it is written, and after a crash.
use Rattle.std.proofs.Common.{◌≡◌, ◌≤◌, ◌*◌, ◌⊎◌, ℕ, zero, suc, ℤ, ◌+◌, List, [], ◌∷◌, ◌++◌, length, map, refl, sym, ap, ◌∙◌, subst, append_assoc, append-nil, length-append, lit<, inl, inr, ⊎_elim, arith, if◌then◌else◌, Option, Some, None, is_some, true, false}
use Rattle.std.specs.List.{AllByRecursion}
use Rattle.rw_types.specs.Beginnings.{Begins}
use Rattle.rw_types.proofs.shared.BeginningLemmas.{begins_itself}
use Rattle.rw_types.specs.Labels.{Labels}
use Rattle.rw_types.specs.LabelOrder.{labels_eq}
use Rattle.rw_types.specs.declared.entry.Entry.{Entry}
use Rattle.rw_wal_format.specs.Laws.{log_all, sample_entry}
use Rattle.rw_wal_format.specs.Pieces.{page_size, reading}
use Rattle.rw_wal_format.specs.Segments.{segment, item_at, segment_in}
use Rattle.rw_wal_format.specs.Series.{samples_after}
use Rattle.rw_head.specs.Added.{Added, samples_added, AddsUp}
use Rattle.rw_head.specs.Order.{Point}
use Rattle.rw_head.specs.Store.{Store, list_of}
use Rattle.rw_kept_log.specs.Journal.{Segments, with_more, IsBegun, LeavesOnly, Only}
use Rattle.rw_kept_log.specs.Torn.{IsTornLog}
use Rattle.rw_kept_log.specs.Logs.{entries_of, IsWholeText}
use Rattle.rw_kept_log.specs.TornLogs.{last_of, AllBefore}
use Rattle.rw_kept_log.proofs.shared.TornLogLemmas.{left_between}
use Rattle.rw_kept_log.proofs.shared.ClosingLemmas.{nothing_read}
use Rattle.rw_kept_log.specs.Additions.{without_position, samples_of_labels, definition_entry}
use Rattle.rw_kept_log.proofs.shared.AdditionLemmas.{samples_in-append}
use Rattle.rw_kept_log.specs.Definitions.{IsDefinedOnce}
use Rattle.rw_kept_log.specs.References.{ReferenceTable, AreReferenced, IsNoted, IsTable, points_of, undefined, only_defined}
use Rattle.rw_kept_log.specs.Ends.{EndsAt}
use Rattle.rw_kept_log.proofs.shared.HoldLemmas.{before_all, more_last}
use Rattle.rw_kept_head.specs.Kept.{SaysWhat, LiesBetween, IsLastWithin, IsLeft, IsTornWrite, HasNoChance, StaysDefinedOnce, Became}
use Rattle.rw_kept_head.specs.Lives.{MayBecome}
use Rattle.rw_kept_head.specs.inner.Inner.{GoesOn, IsWritable}
use Rattle.rw_kept_log.proofs.shared.ReopeningLemmas.{last_is}
use Rattle.rw_kept_head.proofs.WrittenLemmas.{noted_undone}

-- ---- runs of calls

module _ {D : Type 0} (moment : D → ℕ) (left_since : D → ℕ → Segments → Type 0) where
  -- two runs, one after the other
  pub then_runs : (old mid new : D) (P Q R : Segments → Type 0) → LeavesOnly moment left_since old mid P → LeavesOnly moment left_since mid new Q
      → ((c : Segments) → P c → R c) → ((c : Segments) → Q c → R c) → LeavesOnly moment left_since old new R
  then_runs old mid new P Q R a b f h = record {
    later = omega (arith, a.later, b.later);
    each = λ c left. ⊎_elim (λ past. f c (a.each c past)) (h c) (b.before (moment old) c a.later left);
    before = λ t c le left.
        ⊎_elim (λ past. ⊎_elim (λ p. inl p) (λ p. inr (f c p)) (a.before t c le past)) (λ q. inr (h c q)) (b.before t c (omega (arith, le, a.later)) left);
  }

-- ---- logs

pub samples_begin : (es fs : List Entry) (l : Labels) → Begins es fs → Begins (samples_of_labels es l) (samples_of_labels fs l)
samples_begin es fs l b = (map without_position (samples_after l es b.0), ap (λ (x : List Entry). samples_of_labels x l) b.1 ∙ samples_in-append l es b.0)

-- what `segments_add_up` says
abbrev pub AddUp : Type 0
AddUp =
    (page : ℕ) (done : List (List ℕ)) (text last : List ℕ) → AllByRecursion (IsWholeText page) done → IsWholeText page text
    → entries_of page (done ++ text ∷ last ∷ []) ≡ entries_of page (done ++ text ∷ []) ++ (segment page last).entries

nothing_there : (page : ℕ) → entries_of page ([] ∷ []) ≡ entries_of page []
unfolding reading segment_in item_at
nothing_there page = refl

record Ended (P : List ℕ → Type 0) (ss : Segments) : Type 0 where
  done : Segments
  text : List ℕ
  is : ss ≡ done ++ text ∷ []
  all : AllByRecursion P done
  here : P text

last_split : (P : List ℕ → Type 0) (s : List ℕ) (ss : Segments) → AllByRecursion P (s ∷ ss) → Ended P (s ∷ ss)
last_split P s [] all = record { done = []; text = s; is = refl; all = tt; here = all.0 }
last_split P s (t ∷ ss) all =
    let r = last_split P t ss all.1 in
    record { done = s ∷ r.done; text = r.text; is = ap (λ (x : Segments). s ∷ x) r.is; all = (all.0, r.all); here = r.here }

-- an empty segment after whole ones
pub next_same : AddUp → (page : ℕ) (ss : Segments) → AllByRecursion (IsWholeText page) ss → entries_of page (ss ++ [] ∷ []) ≡ entries_of page ss
next_same up page [] all = nothing_there page
next_same up page (s ∷ ss) all =
    let e = last_split (IsWholeText page) s ss all in
    ap (λ (x : Segments). entries_of page (x ++ [] ∷ [])) e.is
    ∙ ap (entries_of page) (append_assoc e.done (e.text ∷ []) ([] ∷ []))
    ∙ up page e.done e.text [] e.all e.here
    ∙ ap (λ (es : List Entry). entries_of page (e.done ++ e.text ∷ []) ++ es) (nothing_read page)
    ∙ append-nil (entries_of page (e.done ++ e.text ∷ []))
    ∙ ap (entries_of page) (sym e.is)

pub begun_same : AddUp → (page : ℕ) (old new : Segments) → AllByRecursion (IsWholeText page) old → IsBegun old new → entries_of page new ≡ entries_of page old
begun_same up page old new all (inl same) = ap (entries_of page) same
begun_same up page old new all (inr more) = ap (entries_of page) more ∙ next_same up page old all

-- a log that ends between two records consists of whole segments
pub ends_whole : ((ss : Segments) (n : ℕ) → EndsAt ss n → EndsAt (ss ++ [] ∷ []) 0) → ((ss : Segments) (n : ℕ) → EndsAt ss n → AllBefore (IsWholeText page_size) ss) → (segments : Segments) (offset : ℕ)
    → EndsAt segments offset → AllByRecursion (IsWholeText page_size) segments
ends_whole next whole segments offset e = before_all (IsWholeText page_size) segments [] (whole (segments ++ [] ∷ []) 0 (next segments offset e))

before_of : (P : List ℕ → Type 0) (ss : Segments) → AllByRecursion P ss → AllBefore P ss
before_of P [] all = tt
before_of P (s ∷ []) all = tt
before_of P (s ∷ t ∷ ss) all = (all.0, before_of P (t ∷ ss) all.1)

before_next : (P : List ℕ → Type 0) (ss : Segments) → AllByRecursion P ss → AllBefore P (ss ++ [] ∷ [])
before_next P [] all = tt
before_next P (s ∷ []) all = (all.0, tt)
before_next P (s ∷ t ∷ ss) all = (all.0, before_next P (t ∷ ss) all.1)

begun_before : (P : List ℕ → Type 0) (old new : Segments) → AllByRecursion P old → IsBegun old new → AllBefore P new
begun_before P old new all (inl same) = subst (AllBefore P) (sym same) (before_of P old all)
begun_before P old new all (inr more) = subst (AllBefore P) (sym more) (before_next P old all)

-- a next segment was begun
pub goes_next : AddUp → (old new : Segments) (may_leave : Segments → Type 0) (offset : ℕ) → EndsAt (old ++ [] ∷ []) 0 → AllBefore (IsWholeText page_size) (old ++ [] ∷ []) → new ≡ old ++ [] ∷ [] → offset ≡ 0
    → Only new may_leave → GoesOn old new may_leave offset
goes_next up old new may_leave offset ends whole begun at_zero synced = record {
  begun = inr begun;
  entries = ap (entries_of page_size) begun ∙ next_same up page_size old (before_all (IsWholeText page_size) old [] whole);
  ends = subst (λ (s : Segments). EndsAt s offset) (sym begun) (subst (EndsAt (old ++ [] ∷ [])) (sym at_zero) ends);
  synced = synced;
}

-- ---- what a crash leaves

module _ (up : AddUp) (tears : List ℕ → List ℕ → Type 0) (ended : Option Segments) (old new : Store) (segments left : Segments) (says : SaysWhat segments old) (whole : AllByRecursion (IsWholeText page_size) segments)
    (begins : (l : Labels) → Begins (list_of old l) (list_of new l)) where
  between : (base : Segments) → IsBegun segments base → (is : (left ≡ base) ⊎ IsTornWrite tears ended new base left) → HasNoChance tears ended new base left is → LiesBetween old new left
  between base begun (inl same) none = λ l.
      let e : samples_of_labels (entries_of page_size left) l ≡ list_of old l =
      ap (λ (es : List Entry). samples_of_labels es l) (ap (entries_of page_size) same ∙ begun_same up page_size segments base whole begun) ∙ sym (says l) in (
        subst (Begins (list_of old l)) (sym e) (begins_itself (list_of old l)),
        subst (λ (ps : List Point). Begins ps (list_of new l)) (sym e) (begins l),
      )
  between base begun (inr w) none = λ l.
      let both = left_between tears page_size base w.written left (lit< tt) none (begun_before (IsWholeText page_size) segments base whole begun) w.torn in
      let e : list_of old l ≡ samples_of_labels (entries_of page_size base) l = says l ∙ ap (λ (es : List Entry). samples_of_labels es l) (sym (begun_same up page_size segments base whole begun)) in (
        subst (λ (ps : List Point). Begins ps (samples_of_labels (entries_of page_size left) l)) (sym e) (samples_begin (entries_of page_size base) (entries_of page_size left) l both.0),
        subst (Begins (samples_of_labels (entries_of page_size left) l)) (sym (w.will l)) (samples_begin (entries_of page_size left) (entries_of page_size (with_more base w.written)) l both.1),
      )

pub crash_leaves : AddUp → (tears : List ℕ → List ℕ → Type 0) (ended : Option Segments) (old new : Store) (segments left : Segments) → SaysWhat segments old → AllByRecursion (IsWholeText page_size) segments
    → ((l : Labels) → Begins (list_of old l) (list_of new l)) → (x : IsLeft tears ended new segments left) → HasNoChance tears ended new x.base left x.is → LiesBetween old new left
crash_leaves up tears ended old new segments left says whole begins x none = between up tears ended old new segments left says whole begins x.base x.begun x.is none

-- nothing was written
pub is_unharmed : (tears : List ℕ → List ℕ → Type 0) (ended : Option Segments) (new : Store) (segments left : Segments) → left ≡ segments → IsLeft tears ended new segments left
is_unharmed tears ended new segments left same = record { base = segments; begun = inl refl; is = inl same }

-- a next segment was begun, or not
pub is_begun : (tears : List ℕ → List ℕ → Type 0) (ended : Option Segments) (new : Store) (segments left : Segments) → IsBegun segments left → IsLeft tears ended new segments left
is_begun tears ended new segments left begun = record { base = left; begun = begun; is = inl refl }

-- ---- where a log ends

pub offset_last : (segments : Segments) (offset : ℕ) → EndsAt segments offset → offset ≡ length (last_of segments)
offset_last segments offset e = e.len ∙ ap length (sym (ap last_of e.folder ∙ last_is e.done (log_all page_size 0 e.records)))

-- a segment that ends within its pages has no more of them
pub last_within : (segments : Segments) (offset pages most : ℕ) → EndsAt segments offset → offset ≤ pages * page_size → pages ≡ most → IsLastWithin most segments
last_within segments offset pages most e le same = subst (λ (n : ℕ). length (last_of segments) ≤ n * page_size) same (subst (λ (n : ℕ). n ≤ pages * page_size) (offset_last segments offset e) le)

last_more : (segments : Segments) (offset : ℕ) (more : List ℕ) → EndsAt segments offset → last_of (with_more segments more) ≡ last_of segments ++ more
last_more segments offset more e =
    ap (λ (ss : Segments). last_of (with_more ss more)) e.folder
    ∙ ap last_of (more_last e.done (log_all page_size 0 e.records) more)
    ∙ last_is e.done (log_all page_size 0 e.records ++ more)
    ∙ ap (λ (t : List ℕ). t ++ more) (sym (ap last_of e.folder ∙ last_is e.done (log_all page_size 0 e.records)))

pub offset_more : (segments : Segments) (offset later : ℕ) (more : List ℕ) → EndsAt segments offset → EndsAt (with_more segments more) later → later ≡ offset + length more
offset_more segments offset later more e f =
    offset_last (with_more segments more) later f ∙ ap length (last_more segments offset more e) ∙ length-append (last_of segments) more
    ∙ ap (λ (n : ℕ). n + length more) (sym (offset_last segments offset e))

-- what a crash leaves of a log that defines each label set once
pub left_once : AddUp → ((es fs : List Entry) → Begins es fs → IsDefinedOnce fs → IsDefinedOnce es) → (tears : List ℕ → List ℕ → Type 0) (ended : Option Segments) (new : Store) (segments left : Segments)
    → AllByRecursion (IsWholeText page_size) segments → (x : IsLeft tears ended new segments left) → HasNoChance tears ended new x.base left x.is → StaysDefinedOnce segments left
left_once up law tears ended new segments left whole x none = by_case x.base x.begun x.is none
  where
    by_case : (base : Segments) → IsBegun segments base → (is : (left ≡ base) ⊎ IsTornWrite tears ended new base left) → HasNoChance tears ended new base left is → StaysDefinedOnce segments left
    by_case base begun (inl same) none = λ once. subst IsDefinedOnce (sym (ap (entries_of page_size) same ∙ begun_same up page_size segments base whole begun)) once
    by_case base begun (inr w) none = λ once.
        let both = left_between tears page_size base w.written left (lit< tt) none (begun_before (IsWholeText page_size) segments base whole begun) w.torn in
        law (entries_of page_size left) (entries_of page_size (with_more base w.written)) both.1 (w.once (subst IsDefinedOnce (sym (begun_same up page_size segments base whole begun)) once))

-- what a log becomes next
next_once : AddUp → ((es fs : List Entry) → Begins es fs → IsDefinedOnce fs → IsDefinedOnce es) → (tears : List ℕ → List ℕ → Type 0) (old new : Segments) → MayBecome tears old new → StaysDefinedOnce old new
next_once up law tears old new (inl same) = λ once. subst IsDefinedOnce (sym same) once
next_once up law tears old new (inr (inl stays)) = stays
next_once up law tears old new (inr (inr crash)) = left_once up law tears crash.ended crash.store old new crash.whole crash.is crash.chance

pub lives_once : AddUp → ((es fs : List Entry) → Begins es fs → IsDefinedOnce fs → IsDefinedOnce es) → (tears : List ℕ → List ℕ → Type 0) (logs : ℕ → Segments) → entries_of page_size (logs 0) ≡ []
    → ((at : ℕ) → MayBecome tears (logs at) (logs (suc at))) → (at : ℕ) → IsDefinedOnce (entries_of page_size (logs at))
lives_once up law tears logs none becomes zero = subst IsDefinedOnce (sym none) tt
lives_once up law tears logs none becomes (suc at) = next_once up law tears (logs at) (logs (suc at)) (becomes at) (lives_once up law tears logs none becomes at)

-- a torn part of bytes that make the log say what the store has
pub is_torn : (tears : List ℕ → List ℕ → Type 0) (ended : Option Segments) (new : Store) (segments base : Segments) (offset : ℕ) (written : List ℕ) (left : Segments) → IsBegun segments base → EndsAt base offset
    → SaysWhat (with_more base written) new → StaysDefinedOnce base (with_more base written) → Became ended (with_more base written) → IsTornLog tears page_size offset base written left
    → IsLeft tears ended new segments left
is_torn tears ended new segments base offset written left begun ends will once whole torn = record {
  base = base;
  begun = begun;
  is = inr (record {
    written = written;
    will = will;
    once = once;
    torn = subst (λ (n : ℕ). IsTornLog tears page_size n base written left) (offset_last base offset ends) torn;
    whole = whole;
  });
}

-- ---- what is written

abbrev pub Samples : Type 0
Samples = List (ℕ × ℤ × ℕ)

-- what `new_samples_are_read` says
abbrev pub AreRead : Type 0
AreRead =
    (es : List Entry) (n : ReferenceTable) (samples : List (ℕ × ℤ × ℕ)) (l : Labels) → IsNoted es n → IsTable n → AreReferenced n samples
    → samples_of_labels (es ++ map definition_entry (undefined n) ++ map sample_entry samples) l ≡ samples_of_labels es l ++ points_of n l samples

pub says_more : AreRead → (old new : Store) (base : Segments) (bytes : List ℕ) (n : ReferenceTable) (samples : List (ℕ × ℤ × ℕ)) (added : List Added) → SaysWhat base old → AddsUp old new added
    → IsNoted (entries_of page_size base) n → IsTable n → AreReferenced n samples → ((l : Labels) → points_of n l samples ≡ samples_added l added)
    → entries_of page_size (with_more base bytes) ≡ entries_of page_size base ++ map definition_entry (undefined n) ++ map sample_entry samples → SaysWhat (with_more base bytes) new
says_more law old new base bytes n samples added says up noted table of points entries = λ l.
    up.lists l
    ∙ ap (λ (ps : List Point). ps ++ samples_added l added) (says l)
    ∙ ap (λ (ps : List Point). samples_of_labels (entries_of page_size base) l ++ ps) (sym (points l))
    ∙ sym (law (entries_of page_size base) n samples l noted table of)
    ∙ ap (λ (es : List Entry). samples_of_labels es l) (sym entries)

-- a log in which nothing was changed
pub goes_nowhere : (segments : Segments) (may_leave : Segments → Type 0) (n : ReferenceTable) (offset : ℕ) → IsWritable segments may_leave n offset → GoesOn segments segments may_leave offset
goes_nowhere segments may_leave n offset w = record {
  begun = inl refl;
  entries = refl;
  ends = w.ends;
  synced = w.synced;
}

-- the label sets of a message that was not written are forgotten
pub still_writable : (old new : Segments) (was may_leave : Segments → Type 0) (offset later : ℕ) (n more : ReferenceTable) → IsWritable old was n offset → GoesOn old new may_leave later
    → only_defined more ≡ only_defined n → IsWritable new may_leave (only_defined more) later
still_writable old new was may_leave offset later n more w on undone = record {
  ends = on.ends;
  noted = noted_undone (entries_of page_size old) (entries_of page_size new) n more on.entries undone w.noted;
  none_else = refl;
  synced = on.synced;
}

pub aborted_writable : (segments : Segments) (may_leave : Segments → Type 0) (n later : ReferenceTable) (offset : ℕ) → later ≡ only_defined n → IsWritable segments may_leave (only_defined n) offset
    → IsWritable segments may_leave later offset
aborted_writable segments may_leave n later offset aborted w = subst (λ (m : ReferenceTable). IsWritable segments may_leave m offset) (sym aborted) w

-- ---- what is collected

pub collected_none : (n : ReferenceTable) (l : Labels) (samples : List (ℕ × ℤ × ℕ)) (added rest : List Added) → samples ≡ [] → rest ≡ added → points_of n l samples ++ samples_added l rest ≡ samples_added l added
collected_none n l samples added rest none same =
    ap (λ (ss : List (ℕ × ℤ × ℕ)). points_of n l ss ++ samples_added l rest) none ∙ ap (samples_added l) same

pub collected_more : (before later : List Point) (l : Labels) (a : Added) (old rest added : List Added) → later ≡ before ++ (if labels_eq a.labels l then a.samples else []) → old ≡ a ∷ rest
    → before ++ samples_added l old ≡ samples_added l added → later ++ samples_added l rest ≡ samples_added l added
collected_more before later l a old rest added e is all =
    ap (λ (ps : List Point). ps ++ samples_added l rest) e
    ∙ append_assoc before (if labels_eq a.labels l then a.samples else []) (samples_added l rest)
    ∙ ap (λ (x : List Added). before ++ samples_added l x) (sym is)
    ∙ all

-- ---- options

pub unset : {A : Type 0} (o : Option A) → is_some o ≡ false → o ≡ None
unset None e = refl
unset (Some x) e = absurd (let h : true ≡ false = e in cc)
