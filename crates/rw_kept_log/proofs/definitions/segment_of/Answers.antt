use Rattle.std.proofs.Common.{ℕ, [], ◌∷◌, map, sym, ap, subst}
use Rattle.rw_kept_log.specs.Additions.{definition_entry}
use Rattle.rw_kept_log.specs.Ends.{End, EndsAt}
use Rattle.rw_kept_log.proofs.WrittenLemmas.{ends_whole, written_alone}
use Rattle.rw_kept_log.proofs.definitions.segment_of.Goals as goal

pub returns-clause-whole : goal.returns-clause-whole
returns-clause-whole c =
    let ends : EndsAt ([] ∷ []) c.new-end.result.offset = subst (λ (o : ℕ). EndsAt ([] ∷ []) o) (sym (ap (λ (e : End). e.offset) c.new-end.ensures)) (c.an_empty_segment_ends_at_0.ensures [] tt) in
    ends_whole c.a_next_segment_may_begin.ensures.whole c.a_next_segment_may_begin.ensures.next _ _ (c.in_ok-appended.ensures.end ([] ∷ []) ends)

pub returns-clause-entries : goal.returns-clause-entries
returns-clause-entries c =
    let ends : EndsAt ([] ∷ []) c.new-end.result.offset = subst (λ (o : ℕ). EndsAt ([] ∷ []) o) (sym (ap (λ (e : End). e.offset) c.new-end.ensures)) (c.an_empty_segment_ends_at_0.ensures [] tt) in
    written_alone c.in_ok-appended.appended.0.items (map definition_entry c.args.definitions.now) (c.in_ok-appended.ensures.entries ([] ∷ []) ends)
