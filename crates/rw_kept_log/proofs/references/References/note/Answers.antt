use Rattle.std.proofs.Common.{◌≡◌, ◌≢◌, ◌<◌, ap, sym, subst, ◌∙◌, rules}
use Rattle.std.specs.List.{AllByRecursion}
use Rattle.rw_types.specs.Labels.{IsLabelSet}
use Rattle.rw_types.specs.declared.names.Names.TheVariants.{Utf8}
use Rattle.rw_kept_log.specs.References.{ReferenceTable, with_pair}
use Rattle.rw_kept_log.proofs.TableLemmas.{noted, noted_before, noted_table}
use Rattle.rw_kept_log.proofs.references.References.note.Goals as goal

pub returns-then-contains_key-clause-known : goal.returns-then-contains_key-clause-known
returns-then-contains_key-clause-known c =
    subst (λ (n : ReferenceTable). n ≡ with_pair (c.args.reference, c.args.labels) n) c.self.view_is
    (noted_before c.self.inside.sets.entries c.self.inside.defined c.self.inside.next c.args.reference c.args.labels c.self.invariant (ap (λ (n : ReferenceTable). n.fresh) c.self.view_is ∙ c.requires.fresh)
    (sym c.contains_key.ensures ∙ c.if-contains_key.true))

pub invariant_of-self-2 : goal.invariant_of-self-2
invariant_of-self-2 c =
    let set : IsLabelSet Utf8 c.args.labels = search rules in
    noted c.self.inside.sets.entries c.insert.new.self.entries c.self.inside.defined c.self.inside.next c.args.reference c.len-len.result c.args.labels c.self.invariant
    (ap (λ (n : ReferenceTable). n.fresh) c.self.view_is ∙ c.requires.fresh) (subst (λ (n : ReferenceTable). c.args.reference < n.next) (sym c.self.view_is) c.requires.below)
    (subst (λ (n : ReferenceTable). AllByRecursion (λ p. p.0 ≢ c.args.reference) n.known) (sym c.self.view_is) c.requires.unknown) set (sym c.contains_key.ensures ∙ c.if-contains_key.false)
    c.in_ok-insert.ensures.entries c.len-len.ensures.len

pub returns-clause-known : goal.returns-clause-known
returns-clause-known c =
    noted_table c.self.inside.sets.entries c.insert.new.self.entries c.self.inside.defined c.self.inside.next c.args.reference c.len-len.result c.args.labels c.self.invariant
    (ap (λ (n : ReferenceTable). n.fresh) c.self.view_is ∙ c.requires.fresh) (sym c.contains_key.ensures ∙ c.if-contains_key.false) c.in_ok-insert.ensures.entries c.len-len.ensures.len
    ∙ ap (with_pair (c.args.reference, c.args.labels)) c.self.view_is
