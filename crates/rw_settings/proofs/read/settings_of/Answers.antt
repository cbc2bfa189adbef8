use Rattle.std.proofs.Common.{◌≡◌, None, sym, ◌∙◌}
use Rattle.rw_settings.specs.Settings.{document_fault}
use Rattle.toml.specs.View.{table_view}
use Rattle.rw_settings.proofs.DocumentLemmas.{ordered_document, refused_document}
use Rattle.rw_settings.proofs.RuleLemmas.{fault_kept}
use Rattle.rw_settings.proofs.read.settings_of.Goals as goal

pub config_of-requires : goal.config_of-requires
config_of-requires c =
    let none : document_fault (table_view c.args.document.now) ≡ None = sym c.document_fault.ensures ∙ c.in_default.is in
    rw c.section_or-send.ensures (ordered_document _ none)

pub returns-in_err-rules-clause-err : goal.returns-in_err-rules-clause-err
returns-in_err-rules-clause-err c =
    let none : document_fault (table_view c.args.document.now) ≡ None = sym c.document_fault.ensures ∙ c.in_default.is in
    fault_kept _ _ _ c.from_residual.ensures.1 (refused_document _ _ none (rw (← c.list_or_none.ensures) c.in_err-rules.ensures.err))
