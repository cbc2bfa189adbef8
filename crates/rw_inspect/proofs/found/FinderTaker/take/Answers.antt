use Rattle.std.proofs.Common.{◌≡◌, ℕ, List, ◌∷◌, [], ◌++◌, ◌∙◌, length, map, ap, sym, subst, Vec, Global}
use Rattle.rw_types.specs.declared.entry.Entry.{Entry}
use Rattle.rw_inspect.specs.inner.Finding.{Finding, note_of, notes_in, told}
use Rattle.rw_inspect.proofs.FindingLemmas.{finder_more}
use Rattle.rw_inspect.proofs.found.FinderTaker.take.Goals as goal

pub invariant_of-self-2 : goal.invariant_of-self-2
invariant_of-self-2 c =
    let taken = c.push.ensures ∙ ap (λ (es : List Entry). es ++ c.args.entry ∷ []) c.again-taken.ensures in
    let note = subst (λ (f : Finding). notes_in (length f.entries) c.in_ok-note.note ≡ note_of f.positions.items f.entries c.args.entry) (sym c.self.view_is) c.in_ok-note.ensures in
    let added = c.add_note.ensures ∙ ap (λ (ns : List (ℕ × Vec ℕ Global)). map told ns ++ notes_in c.self.inside.count c.in_ok-note.note) c.reserve.ensures.items in
    finder_more _ _ _ _ _ _ _ _ _ _ _ c.self.invariant taken c.in_ok-count.ensures c.in_ok-define.ensures.choice c.in_ok-define.ensures.defined note added
