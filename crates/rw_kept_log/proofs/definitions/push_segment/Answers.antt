use Rattle.std.proofs.Common.{[], ◌∷◌, ◌++◌, List, ℕ, Vec, map, ap, sym, ◌∙◌, subst}
use Rattle.std.specs.declared.alloc.Global.{Global}
use Rattle.rw_kept_log.specs.Additions.{definition_entry}
use Rattle.rw_kept_log.specs.Journal.{Segments}
use Rattle.rw_kept_log.specs.Retiring.{texts_of}
use Rattle.rw_kept_log.specs.inner.Written.{AreWhole}
use Rattle.rw_kept_log.proofs.WrittenLemmas.{texts_push, whole_push}
use Rattle.rw_kept_log.proofs.definitions.push_segment.Goals as goal

pub returns-clause-ok : goal.returns-clause-ok
returns-clause-ok c = λ es h.
    let items = c.push_reserved.ensures.items ∙ ap (λ (xs : List (Vec ℕ Global)). xs ++ c.in_ok-text.text ∷ []) c.reserve.ensures.items in
    subst (λ (ss : Segments). AreWhole ss (es ++ map definition_entry c.args.definitions.now)) (sym (ap texts_of items ∙ texts_push c.args.texts.now.items c.in_ok-text.text))
    (whole_push (texts_of c.args.texts.now.items) c.in_ok-text.text.items es (map definition_entry c.args.definitions.now) c.in_ok-text.ensures.whole c.in_ok-text.ensures.entries h)
