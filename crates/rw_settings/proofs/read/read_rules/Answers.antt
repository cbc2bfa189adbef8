use Rattle.std.proofs.Common.{◌≡◌, true, sym}
use Rattle.std.specs.Str.{is_utf8}
use Rattle.rw_settings.specs.Settings.{settings_in}
use Rattle.rw_settings.proofs.DocumentLemmas.{document_rules}
use Rattle.rw_settings.proofs.read.read_rules.Goals as goal

pub returns-clause-ok : goal.returns-clause-ok
unfolding settings_in
returns-clause-ok c =
    let utf8 : is_utf8 c.args.text.now ≡ true = sym c.in-Some.ensures.utf8 in
    let document = rw c.in-Some.ensures.text at c.in_ok-document.ensures.ok in
    rw (utf8, document) (document_rules _ _ (rw c.list_or_none.ensures at c.in_ok-written_rules.ensures))
