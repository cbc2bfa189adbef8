-- Segments with definitions.
use Rattle.std.proofs.Common.{◌≡◌, ℕ, List, [], ◌∷◌, ◌++◌, Vec, refl, sym, ap, ◌∙◌, append-nil}
use Rattle.std.specs.declared.alloc.Global.{Global}
use Rattle.std.specs.List.{AllByRecursion}
use Rattle.rw_types.specs.declared.entry.Entry.{Entry}
use Rattle.rw_wal_format.specs.Pieces.{page_size, reading}
use Rattle.rw_wal_format.specs.Segments.{item_at, segment, segment_in}
use Rattle.rw_kept_log.specs.Ends.{EndsAt}
use Rattle.rw_kept_log.specs.Journal.{Segments}
use Rattle.rw_kept_log.specs.Logs.{entries_of, IsWholeText}
use Rattle.rw_kept_log.specs.TornLogs.{AllBefore}
use Rattle.rw_kept_log.proofs.shared.ReopeningLemmas.{no_entries, one_more}
use Rattle.rw_kept_log.specs.Retiring.{texts_of}
use Rattle.rw_kept_log.specs.inner.Written.{AreWhole}

-- a segment of records ends between two of them
pub ends_whole : ((segments : Segments) (offset : ℕ) → EndsAt segments offset → AllBefore (IsWholeText page_size) segments)
    → ((segments : Segments) (offset : ℕ) → EndsAt segments offset → EndsAt (segments ++ [] ∷ []) 0)
    → (text : List ℕ) (offset : ℕ) → EndsAt (text ∷ []) offset → IsWholeText page_size text
ends_whole whole next text offset e = (whole (text ∷ [] ∷ []) 0 (next (text ∷ []) offset e)).0

pub nothing_there : entries_of page_size ([] ∷ []) ≡ []
unfolding reading segment_in item_at
nothing_there = refl

pub alone : (text : List ℕ) → entries_of page_size (text ∷ []) ≡ (segment page_size text).entries
unfolding reading
alone text = refl

-- what a segment that is written to an empty one has
pub written_alone : (text : List ℕ) (es : List Entry) → entries_of page_size (text ∷ []) ≡ (entries_of page_size ([] ∷ []) ++ es) ++ [] → (segment page_size text).entries ≡ es
written_alone text es h = sym (alone text) ∙ h ∙ append-nil (entries_of page_size ([] ∷ []) ++ es) ∙ ap (λ (xs : List Entry). xs ++ es) nothing_there

pub none_whole : AreWhole [] []
none_whole = record { all = tt; read = no_entries page_size }

push_all : (P : List ℕ → Type 0) (segments : Segments) (text : List ℕ) → AllByRecursion P segments → P text → AllByRecursion P (segments ++ text ∷ [])
push_all P [] text all here = (here, tt)
push_all P (s ∷ ss) text all here = (all.0, push_all P ss text all.1 here)

pub whole_push : (segments : Segments) (text : List ℕ) (es fs : List Entry) → IsWholeText page_size text → (segment page_size text).entries ≡ fs → AreWhole segments es → AreWhole (segments ++ text ∷ []) (es ++ fs)
whole_push segments text es fs whole is h = record {
  all = push_all (IsWholeText page_size) segments text h.all whole;
  read = one_more page_size segments text h.all ∙ ap (λ (xs : List Entry). xs ++ (segment page_size text).entries) h.read ∙ ap (λ (xs : List Entry). es ++ xs) is;
}

pub texts_push : (texts : List (Vec ℕ Global)) (text : Vec ℕ Global) → texts_of (texts ++ text ∷ []) ≡ texts_of texts ++ text.items ∷ []
texts_push [] text = refl
texts_push (t ∷ texts) text = ap (λ (ss : Segments). t.items ∷ ss) (texts_push texts text)
