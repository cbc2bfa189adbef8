use Rattle.std.proofs.Common.{◌≤◌, ◌+◌, length, refl, subst, sym, ap, ◌∙◌}
use Rattle.rw_types.specs.Beginnings.{Begins}
use Rattle.rw_types.specs.Labels.{Labels}
use Rattle.rw_head.specs.Growth.{EachRises, sample_count}
use Rattle.rw_head.specs.inner.Growth.{HoldsNoneRefused}
use Rattle.rw_head.specs.Store.{Store, list_of, total, label_sets, HasNoEmptyList}
use Rattle.rw_head.specs.Head.{State, answer}
use Rattle.rw_write_request.specs.Read.{read}
use Rattle.rw_head.proofs.shared.GrowthLemmas.{kept_grown, answer_begins}
use Rattle.rw_head.proofs.head.Head.stage.Goals as goal

pub invariant_of-result : goal.invariant_of-result
invariant_of-result g c =
    let m = c.in-Ok.ensures.staged in
    let staged = c.stage_body.new.table.staged in
    let grows = kept_grown c.self.inside.bounds m.0 c.self.inside.table c.stage_body.new.table.staged c.stage_body.new.table.staged c.self.invariant.0 m.2 refl in
    let same = sym c.in-Ok.ensures.kept in (
      record {
        rises = subst EachRises same c.self.invariant.0.rises;
        filled = subst HasNoEmptyList same c.self.invariant.0.filled;
        within = subst (HoldsNoneRefused c.self.inside.bounds) same c.self.invariant.1;
        rises_after = grows.rises;
        filled_after = grows.filled;
        within_after = c.in-Ok.ensures.within;
        more = subst (λ (s : Store). total s ≤ total c.stage_body.new.table.staged) same grows.more;
        begins = subst (λ (s : Store). (l : Labels) → Begins (list_of s l) (list_of c.stage_body.new.table.staged l)) same grows.begins;
      },
      c.places-places.ensures ∙ ap (λ (s : Store). length (label_sets s)) (c.self.invariant.0.settled ∙ same),
      c.stage_body.ensures.forgets ∙ c.self.invariant.2,
    )

pub returns-then-busy-gt0-clause-begins : goal.returns-then-busy-gt0-clause-begins
returns-then-busy-gt0-clause-begins g c = λ l.
    subst (λ (h : State). Begins (list_of h.store l) (list_of (answer h c.args.body.now).head.store l)) c.self.view_is
    (answer_begins (record { store = c.self.inside.table.kept; limits = c.self.inside.bounds; busy = c.self.inside.busy }) (read c.args.body.now) l c.self.invariant.0.rises c.self.invariant.0.filled)

pub returns-in-Ok-clause-begins : goal.returns-in-Ok-clause-begins
returns-in-Ok-clause-begins g c = λ l.
    subst (λ (h : State). Begins (list_of h.store l) (list_of (answer h c.args.body.now).head.store l)) c.self.view_is
    (answer_begins (record { store = c.self.inside.table.kept; limits = c.self.inside.bounds; busy = c.self.inside.busy }) (read c.args.body.now) l c.self.invariant.0.rises c.self.invariant.0.filled)

pub returns-in-Err-clause-begins : goal.returns-in-Err-clause-begins
returns-in-Err-clause-begins g c = λ l.
    subst (λ (h : State). Begins (list_of h.store l) (list_of (answer h c.args.body.now).head.store l)) c.self.view_is
    (answer_begins (record { store = c.self.inside.table.kept; limits = c.self.inside.bounds; busy = c.self.inside.busy }) (read c.args.body.now) l c.self.invariant.0.rises c.self.invariant.0.filled)

pub returns-in-Ok-clause-message : goal.returns-in-Ok-clause-message
returns-in-Ok-clause-message g c =
    let m = c.in-Ok.ensures.staged in
    let staged = c.stage_body.new.table.staged in
    let few : total staged ≤ total c.self.inside.table.kept + sample_count m.0
    = (kept_grown c.self.inside.bounds m.0 c.self.inside.table staged staged c.self.invariant.0 m.2 refl).few in
    (m.0, m.1, rw (← c.self.view_is) few)
