use Rattle.std.proofs.Common.{◌≡◌, [], ap, sym, ◌∙◌, subst, map}
use Rattle.rw_wal_format.specs.Laws.{sample_entry}
use Rattle.rw_kept_log.specs.Additions.{definition_entry}
use Rattle.rw_kept_log.specs.Ends.{EndsAt}
use Rattle.rw_kept_log.proofs.shared.HoldLemmas.{both_added, both_end}
use Rattle.rw_kept_log.proofs.log_end.LogEnd.append.Goals as goal

pub returns-clause-entries : goal.returns-clause-entries
returns-clause-entries c segments e =
    let at : c.args.self.now.offset ≡ c.resume-writer.result.offset = sym (ap (λ s. s.offset) c.resume-writer.ensures ∙ ap (λ s. s.offset) c.self.view_is) in
    let empty : c.resume-writer.result.sink.bytes ≡ [] = ap (λ s. s.sink.bytes) c.resume-writer.ensures ∙ ap (λ b. b.bytes) c.in_ok-buffer.ensures in
    both_added segments c.resume-writer.result c.put_definitions.new.writer c.put_samples.new.writer (map definition_entry c.args.definitions.now) (map sample_entry c.args.samples.now) c.into_bytes.result.items
    (subst (EndsAt segments) at e) empty c.in_ok-put_definitions.ensures c.in_ok-put_samples.ensures (c.into_bytes.ensures ∙ ap (λ b. b.bytes) c.into_inner.ensures.sink) c.records_add_entries.ensures

pub returns-clause-end : goal.returns-clause-end
returns-clause-end c segments e =
    let at : c.args.self.now.offset ≡ c.resume-writer.result.offset = sym (ap (λ s. s.offset) c.resume-writer.ensures ∙ ap (λ s. s.offset) c.self.view_is) in
    let empty : c.resume-writer.result.sink.bytes ≡ [] = ap (λ s. s.sink.bytes) c.resume-writer.ensures ∙ ap (λ b. b.bytes) c.in_ok-buffer.ensures in
    both_end segments c.resume-writer.result c.put_definitions.new.writer c.put_samples.new.writer (map definition_entry c.args.definitions.now) (map sample_entry c.args.samples.now) c.into_bytes.result.items c.offset.result
    (subst (EndsAt segments) at e) empty c.in_ok-put_definitions.ensures c.in_ok-put_samples.ensures (c.into_bytes.ensures ∙ ap (λ b. b.bytes) c.into_inner.ensures.sink) c.offset.ensures.offset
