-- A cut that was checked by reading it.
use Rattle.std.proofs.Common.{◌≡◌, ℕ, ◌<◌, ◌≤◌, List, [], ◌∷◌, ◌++◌, length, take, drop, Some, None, refl, sym, ap, ◌∙◌, subst, arith, append-nil, length-append, take-append-drop, false}
use Rattle.rw_types.specs.declared.entry.Entry.{Entry}
use Rattle.rw_wal_format.specs.Segments.{Stop, between, inside, at_fault, Reading, segment}
use Rattle.rw_wal_format.specs.Pieces.{bytes, next_segment, page_size, reading, reading_after, fault, fault_at, then_after}
use Rattle.rw_wal_format.proofs.shared.Growing.{segment_grows}
use Rattle.rw_kept_log.specs.Logs.{IsCleanCut}

pub no_fault : (s : Stop) (r next : Reading) → r.stop ≡ s → fault_at (then_after s r next).stop ≡ None → s ≡ between
no_fault between r next e f = refl
no_fault inside r next e f = absurd (cc)
no_fault (at_fault g) r next e f = let h : fault_at r.stop ≡ Some g = ap fault_at e in absurd (cc)

none_left : (es : List Entry) → length es ≤ 0 → es ≡ []
none_left [] h = refl
none_left (e ∷ es) h = absurd (omega arith)

-- a segment that was cut, and ended, is read without a fault, and no entry is missing
pub checked : (text : List ℕ) (at : ℕ) → at ≤ length text → fault (bytes (take at text) ∷ next_segment ∷ []) ≡ None
    → length (segment page_size text).entries ≤ length (segment page_size (take at text)).entries → 0 < page_size → IsCleanCut page_size text at
unfolding reading
checked text at within sound as_many p =
    let grown = segment_grows false page_size (take at text) (drop at text) p in
    let all = subst (λ (t : List ℕ). (segment page_size t).entries ≡ (segment page_size (take at text)).entries ++ grown.more) (take-append-drop at text) grown.entries in
    let none : grown.more ≡ [] = none_left grown.more (omega (arith, ap length all, length-append (segment page_size (take at text)).entries grown.more, as_many)) in
    record {
      within = within;
      keeps = sym (all ∙ ap (λ (es : List Entry). (segment page_size (take at text)).entries ++ es) none ∙ append-nil (segment page_size (take at text)).entries);
      whole = no_fault (segment page_size (take at text)).stop (segment page_size (take at text)) (reading_after page_size [] []) refl sound;
    }
