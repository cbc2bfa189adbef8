use Rattle.std.proofs.Common.{rules, ◌≡◌, ◌++◌, List, ℕ, true, false, ◌∙◌, ap}
use Rattle.rw_inspect.specs.Finding.{entry_text}
use Rattle.rw_inspect.specs.inner.Finding.{is_asked}
use Rattle.rw_inspect.proofs.FindingLemmas.{is_noted, not_noted}
use Rattle.rw_inspect.proofs.found.Finder.note_of.Goals as goal

pub returns-then-not-contains : goal.returns-then-not-contains
returns-then-not-contains c =
    let unasked : is_asked c.self.inside.positions.items c.self.inside.count ≡ false = search rules in
    rw (← c.self.view_is) (not_noted _ _ _ _ _ _ c.self.invariant unasked)

pub returns : goal.returns
returns c =
    let asked : is_asked c.self.inside.positions.items c.self.inside.count ≡ true = search rules in
    rw (← c.self.view_is)
    (is_noted _ _ _ _ _ _ _ c.self.invariant asked (λ before h. c.in_ok-push_entry.ensures before h ∙ ap (λ (l : List ℕ). l ++ entry_text before c.args.entry.now) c.new-text.ensures.items))
