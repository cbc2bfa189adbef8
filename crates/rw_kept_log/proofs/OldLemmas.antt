-- Segments that may give way to their definitions.
use Rattle.std.proofs.Common.{◌≡◌, ◌⊎◌, inl, inr, ℕ, ◌≤◌, zero, suc, ℤ, int_lt, Bool, true, false, cond, is_some, IfSome, Option, Some, None, List, [], ◌∷◌, ◌++◌, length, take, map, flat_map, Vec, refl, sym, ap, ◌∙◌, subst, arith}
use Rattle.std.proofs.lemmas.List.Concat.{flat_map-cons}
use Rattle.std.specs.declared.alloc.Global.{Global}
use Rattle.std.specs.List.{AllByRecursion}
use Rattle.rw_types.specs.Labels.{Labels}
use Rattle.rw_types.specs.declared.entry.Entry.{Entry}
use Rattle.rw_types.specs.declared.entry.Entry.TheVariants.{Def, Sample}
use Rattle.rw_wal_format.specs.Pieces.{page_size, reading}
use Rattle.rw_wal_format.specs.Segments.{segment}
use Rattle.rw_wal_format.specs.Series.{has_labels, labels_of, samples_after}
use Rattle.rw_kept_log.specs.Additions.{samples_of_labels, without_position}
use Rattle.rw_kept_log.specs.Checkpoints.{AreNotAfter, IsOld, IsRetired, LacksOld}
use Rattle.rw_kept_log.specs.Definitions.{definitions_in}
use Rattle.rw_kept_log.specs.Journal.{Segments}
use Rattle.rw_kept_log.specs.Logs.{entries_of, IsWholeText}
use Rattle.rw_kept_log.specs.Old.{OldTaken}
use Rattle.rw_kept_log.specs.declared.segment_read.SegmentRead.{SegmentRead}
use Rattle.rw_kept_log.specs.inner.Old.{AreOldTexts, IsOldIfSome, IsOldText}
use Rattle.rw_kept_log.specs.inner.Reading.{IsFaultOf, ReadsSegment}
use Rattle.rw_kept_log.proofs.shared.CheckpointLemmas.{retired_definitions, retired_samples, two_parts}
use Rattle.rw_kept_log.proofs.shared.DefinitionLemmas.{all_both, definitions-append}
use Rattle.rw_kept_log.proofs.shared.ReopeningLemmas.{is_whole, no_entries}

abbrev Parts : Type 0
Parts = List (Vec (ℕ × Labels) Global)

-- ---- one segment more

pub old_longer : (floor : ℤ) (ss : Segments) (s : List ℕ) (ps : Parts) → AreOldTexts floor ss ps → AreOldTexts floor (ss ++ s ∷ []) ps
old_longer floor ss s [] all = tt
old_longer floor [] s (p ∷ ps) all = absurd all
old_longer floor (t ∷ ss) s (p ∷ ps) all = (all.0, old_longer floor ss s ps all.1)

pub old_pushed : (floor : ℤ) (ss : Segments) (s : List ℕ) (ps : Parts) (p : Vec (ℕ × Labels) Global) → length ps ≡ length ss → IsOldText floor s p.items → AreOldTexts floor ss ps → AreOldTexts floor (ss ++ s ∷ []) (ps ++ p ∷ [])
old_pushed floor [] s [] p len here all = (here, tt)
old_pushed floor [] s (q ∷ ps) p len here all = absurd all
old_pushed floor (t ∷ ss) s [] p len here all = absurd (omega (arith, len))
old_pushed floor (t ∷ ss) s (q ∷ ps) p len here all = (all.0, old_pushed floor ss s ps p (omega (arith, len)) here all.1)

-- ---- one segment that was read

none_of : {A : Type 0} (o : Option A) → is_some o ≡ false → o ≡ None
none_of None e = refl
none_of (Some x) e = absurd cc

pub old_found : (floor at : ℤ) (text : List ℕ) (before taken : List Entry) (read : SegmentRead) (found : Option (Vec (ℕ × Labels) Global)) → before ≡ [] → ReadsSegment text read before taken → is_some read.fault ≡ false → at ≡ floor
    → IfSome found (λ v. (v.items ≡ definitions_in taken) × AllByRecursion (IsOld at) taken) → IsOldIfSome floor text found
old_found floor at text before taken read None none reads sound same h = tt
old_found floor at text before taken read (Some v) none reads sound same h =
    let entries : taken ≡ (segment page_size text).entries = reads.taken ∙ ap (λ (es : List Entry). es ++ (segment page_size text).entries) none in
    record {
      whole = is_whole text (subst (IsFaultOf text) (none_of read.fault sound) reads.is_read.fault_is);
      all = h.0 ∙ ap definitions_in entries;
      old = subst (λ (es : List Entry). AllByRecursion (IsOld floor) es) entries (subst (λ (f : ℤ). AllByRecursion (IsOld f) taken) same h.1);
    }

-- ---- the first segments

-- the segments with these definitions are whole, have them, and no sample that is later
pub record AreFirst (floor : ℤ) (ss : Segments) (ps : Parts) : Type 0 where
  pub whole : AllByRecursion (IsWholeText page_size) ss
  pub all : flat_map (λ p. p.items) ps ≡ definitions_in (entries_of page_size ss)
  pub old : AllByRecursion (IsOld floor) (entries_of page_size ss)

none_first : (floor : ℤ) → AreFirst floor [] []
none_first floor = record {
  whole = tt;
  all = ap definitions_in (sym (no_entries page_size));
  old = subst (AllByRecursion (IsOld floor)) (sym (no_entries page_size)) tt;
}

alone : (text : List ℕ) → entries_of page_size (text ∷ []) ≡ (segment page_size text).entries
unfolding reading
alone text = refl

one_first : (floor : ℤ) (s : List ℕ) (ss : Segments) (p : Vec (ℕ × Labels) Global) (ps : Parts) → IsOldText floor s p.items → AreFirst floor ss ps → AreFirst floor (s ∷ ss) (p ∷ ps)
one_first floor s ss p ps here rest =
    let parts : entries_of page_size (s ∷ ss) ≡ (segment page_size s).entries ++ entries_of page_size ss =
    two_parts page_size (s ∷ []) ss (here.whole, tt) ∙ ap (λ (es : List Entry). es ++ entries_of page_size ss) (alone s) in
    record {
      whole = (here.whole, rest.whole);
      all = flat_map-cons (λ (q : Vec (ℕ × Labels) Global). q.items) p ps
          ∙ ap (λ (ds : List (ℕ × Labels)). ds ++ flat_map (λ q. q.items) ps) here.all
          ∙ ap (λ (ds : List (ℕ × Labels)). definitions_in (segment page_size s).entries ++ ds) rest.all
          ∙ sym (ap definitions_in parts ∙ definitions-append (segment page_size s).entries (entries_of page_size ss));
      old = subst (AllByRecursion (IsOld floor)) (sym parts) (all_both (IsOld floor) (segment page_size s).entries (entries_of page_size ss) here.old rest.old);
    }

pub first_old : (floor : ℤ) (n : ℕ) (ss : Segments) (ps : Parts) → AreOldTexts floor ss ps → n ≤ length ps → AreFirst floor (take n ss) (take n ps)
first_old floor zero ss ps all le = none_first floor
first_old floor (suc n) ss [] all le = absurd (omega arith)
first_old floor (suc n) [] (p ∷ ps) all le = absurd all
first_old floor (suc n) (s ∷ ss) (p ∷ ps) all le = one_first floor s (take n ss) p (take n ps) all.0 (first_old floor n ss ps all.1 (omega arith))

-- ---- what a log lacks whose first segments gave way

taken_or_not : (floor : ℤ) (b : Bool) (n : ℕ) (t : ℤ) (w : ℕ) (later : List (ℕ × ℤ × ℕ)) → int_lt floor t ≡ false → AreNotAfter floor (map without_position later) → AreNotAfter floor (map without_position (cond b ((n, t, w) ∷ later) later))
taken_or_not floor true n t w later h all = (h, all)
taken_or_not floor false n t w later h all = all

old_after : (floor : ℤ) (l : Labels) (before es : List Entry) → AllByRecursion (IsOld floor) es → AreNotAfter floor (map without_position (samples_after l before es))
old_after floor l before [] all = tt
old_after floor l before (Def r m ∷ es) all = old_after floor l (before ++ Def r m ∷ []) es all.1
old_after floor l before (Sample r t w ∷ es) all =
    taken_or_not floor (has_labels l (labels_of before r (length before))) (length before) t w (samples_after l (before ++ Sample r t w ∷ []) es) all.0 (old_after floor l (before ++ Sample r t w ∷ []) es all.1)

pub lacks_none : (floor : ℤ) (ss : Segments) → LacksOld floor ss ss
lacks_none floor ss = record { samples = λ l. ([], refl, tt); definitions = refl }

pub lacks_first : (floor : ℤ) (n : ℕ) (old new : Segments) → AllByRecursion (IsOld floor) (entries_of page_size (take n old)) → IsRetired n old new → LacksOld floor old new
lacks_first floor n old new all is = record {
  samples = λ l. (
    samples_of_labels (entries_of page_size (take n old)) l,
    retired_samples page_size n old is.texts is.is l ∙ ap (λ (ss : Segments). samples_of_labels (entries_of page_size (take n old)) l ++ samples_of_labels (entries_of page_size ss) l) (sym is.folder),
    old_after floor l [] (entries_of page_size (take n old)) all,
  );
  definitions = ap (λ (ss : Segments). definitions_in (entries_of page_size ss)) is.folder ∙ retired_definitions page_size n old is.texts is.is;
}

pub lacks_either : (floor : ℤ) (n : ℕ) (old left : Segments) → AllByRecursion (IsOld floor) (entries_of page_size (take n old)) → (left ≡ old) ⊎ IsRetired n old left → LacksOld floor old left
lacks_either floor n old left all (inl e) = subst (LacksOld floor old) (sym e) (lacks_none floor old)
lacks_either floor n old left all (inr is) = lacks_first floor n old left all is

-- the first segments of those that were read
pub first_read : (taken inside : OldTaken) (n : ℕ) (ss : Segments) (ps : Parts) → inside ≡ taken → taken.segments ≡ ss → n ≤ length ps → AreOldTexts inside.floor inside.segments ps → AreFirst taken.floor (take n ss) (take n ps)
first_read taken inside n ss ps same read le all =
    subst (λ (xs : Segments). AreFirst taken.floor (take n xs) (take n ps)) read
    (subst (λ (o : OldTaken). AreFirst o.floor (take n o.segments) (take n ps)) same (first_old inside.floor n inside.segments ps all le))
