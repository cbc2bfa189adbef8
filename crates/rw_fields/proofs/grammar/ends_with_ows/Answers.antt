use Rattle.std.proofs.Common.{ap, sym, ◌∙◌}
use Rattle.rw_fields.specs.Fields.{ends_with_ows}
use Rattle.rw_fields.proofs.GrammarLemmas.{ends_with_ows-push}
use Rattle.rw_fields.proofs.grammar.ends_with_ows.Goals as goal

pub returns-in-Some : goal.returns-in-Some
returns-in-Some c =
    c.is_ows.ensures ∙ sym (ap ends_with_ows c.in-Some.ensures.cases.0 ∙ ends_with_ows-push c.in-Some.field-0-1.now c.in-Some.last.now)
