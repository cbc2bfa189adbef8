use Rattle.std.proofs.Common.{◌≡◌, List, Result, Ok, ◌++◌, ◌∷◌, [], map, sym, ap, ◌∙◌, rules}
use Rattle.std.proofs.lemmas.List.{map-append}
use Rattle.rw_types.specs.Labels.{Label, text_label}
use Rattle.rw_write_request.specs.declared.fault.WireFault.{WireFault}
use Rattle.rw_write_request.specs.Message.{TimeSeries}
use Rattle.rw_write_request.specs.Read.{series_step}
use Rattle.rw_write_request.proofs.parts.add_label.Goals as goal

pub returns-in_ok-push-in-1-clause-found : goal.returns-in_ok-push-in-1-clause-found
unfolding series_step
returns-in_ok-push-in-1-clause-found c = λ samples.
    let old = c.args.labels.now.items in
    let label = c.in_ok-label-in-1.label in
    let is = c.in_ok-label-in-1.ensures in
    let added : c.push.new.self.items ≡ old ++ label ∷ [] = search rules in
    let made : List Label → Result TimeSeries WireFault = λ ls. Ok (record { labels = ls; samples = samples }) in
    (samples, rw (c.in-1.is, is) (ap made (sym (ap (map text_label) added ∙ map-append text_label old (label ∷ [])))))

pub returns-in_ok-nested_sample-in-2-clause-found : goal.returns-in_ok-nested_sample-in-2-clause-found
unfolding series_step
returns-in_ok-nested_sample-in-2-clause-found c = λ samples. (samples ++ c.in_ok-nested_sample-in-2.field-0 ∷ [], search rules)

pub returns-in_default-clause-found : goal.returns-in_default-clause-found
unfolding series_step
returns-in_default-clause-found c = λ samples. (samples, search rules)
