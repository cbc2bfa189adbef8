use Rattle.std.proofs.Common.{ℕ, ◌≤◌, List, Vec, flat_map, length, take, ap, ◌∙◌, arith}
use Rattle.std.specs.declared.alloc.Global.{Global}
use Rattle.rw_types.specs.Labels.{Labels}
use Rattle.rw_kept_log.proofs.OldLemmas.{AreFirst, first_read, lacks_either, lacks_first}
use Rattle.rw_kept_log.proofs.shared.Moments.{weaker}
use Rattle.rw_kept_log.proofs.old_segments.retire_old_segments.Goals as goal

pub retire_segments-requires-clause-whole : goal.retire_segments-requires-clause-whole
retire_segments-requires-clause-whole g c =
    let le : c.min-n.result ≤ length c.old.inside.found.items = omega (arith, c.min-n.ensures, c.len.ensures) in
    let first : AreFirst c.args.old.floor (take c.min-n.result (g.J.Journal.seen c.args.journal.now)) (take c.min-n.result c.old.inside.found.items) =
    first_read c.args.old _ c.min-n.result (g.J.Journal.seen c.args.journal.now) c.old.inside.found.items c.old.view_is c.requires.read le c.old.invariant.0 in
    first.whole

pub retire_segments-requires-clause-definitions : goal.retire_segments-requires-clause-definitions
retire_segments-requires-clause-definitions g c =
    let le : c.min-n.result ≤ length c.old.inside.found.items = omega (arith, c.min-n.ensures, c.len.ensures) in
    let first : AreFirst c.args.old.floor (take c.min-n.result (g.J.Journal.seen c.args.journal.now)) (take c.min-n.result c.old.inside.found.items) =
    first_read c.args.old _ c.min-n.result (g.J.Journal.seen c.args.journal.now) c.old.inside.found.items c.old.view_is c.requires.read le c.old.invariant.0 in
    c.deref.ensures.value ∙ c.in_ok-definitions.ensures ∙ ap (λ (ps : List (Vec (ℕ × Labels) Global)). flat_map (λ p. p.items) ps) c.truncate.ensures.items ∙ first.all

pub returns-in_err-retire_segments-clause-any_moment : goal.returns-in_err-retire_segments-clause-any_moment
returns-in_err-retire_segments-clause-any_moment g c =
    let le : c.min-n.result ≤ length c.old.inside.found.items = omega (arith, c.min-n.ensures, c.len.ensures) in
    let first : AreFirst c.args.old.floor (take c.min-n.result (g.J.Journal.seen c.args.journal.now)) (take c.min-n.result c.old.inside.found.items) =
    first_read c.args.old _ c.min-n.result (g.J.Journal.seen c.args.journal.now) c.old.inside.found.items c.old.view_is c.requires.read le c.old.invariant.0 in
    weaker g.J.Journal.moment g.J.Journal.left_since c.args.journal.now c.retire_segments.new.journal _ _ c.retire_segments.ensures.any_moment
    (λ x either. lacks_either c.args.old.floor c.min-n.result (g.J.Journal.seen c.args.journal.now) x first.old either)

pub returns-clause-lacks : goal.returns-clause-lacks
returns-clause-lacks g c =
    let le : c.min-n.result ≤ length c.old.inside.found.items = omega (arith, c.min-n.ensures, c.len.ensures) in
    let first : AreFirst c.args.old.floor (take c.min-n.result (g.J.Journal.seen c.args.journal.now)) (take c.min-n.result c.old.inside.found.items) =
    first_read c.args.old _ c.min-n.result (g.J.Journal.seen c.args.journal.now) c.old.inside.found.items c.old.view_is c.requires.read le c.old.invariant.0 in
    lacks_first c.args.old.floor c.min-n.result (g.J.Journal.seen c.args.journal.now) (g.J.Journal.seen c.retire_segments.new.journal) first.old c.in_ok-retire_segments.ensures.retired

pub returns-clause-any_moment : goal.returns-clause-any_moment
returns-clause-any_moment g c =
    let le : c.min-n.result ≤ length c.old.inside.found.items = omega (arith, c.min-n.ensures, c.len.ensures) in
    let first : AreFirst c.args.old.floor (take c.min-n.result (g.J.Journal.seen c.args.journal.now)) (take c.min-n.result c.old.inside.found.items) =
    first_read c.args.old _ c.min-n.result (g.J.Journal.seen c.args.journal.now) c.old.inside.found.items c.old.view_is c.requires.read le c.old.invariant.0 in
    weaker g.J.Journal.moment g.J.Journal.left_since c.args.journal.now c.retire_segments.new.journal _ _ c.retire_segments.ensures.any_moment
    (λ x either. lacks_either c.args.old.floor c.min-n.result (g.J.Journal.seen c.args.journal.now) x first.old either)
