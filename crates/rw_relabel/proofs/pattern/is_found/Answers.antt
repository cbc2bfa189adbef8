use Rattle.rw_relabel.proofs.PatternLemmas.{is_match_of_source}
use Rattle.rw_relabel.proofs.pattern.is_found.Goals as goal

pub returns : goal.returns
returns c =
    rw (c.is_match.ensures.found, c.in_ok-matcher.ensures.pattern)
    (is_match_of_source c.args.regex.now c.requires.config c.requires.read c.args.text.now (λ k. (c.type_inv.text k).fits))
