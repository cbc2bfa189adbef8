use Rattle.std.proofs.Common.{◌≡◌, ◌+◌, ◌≤◌, ◌++◌, Ok, length}
use Rattle.rw_types.specs.Labels.{Labels}
use Rattle.rw_write_request.specs.Message.{TimeSeries}
use Rattle.rw_write_request.specs.Parts.{series_on}
use Rattle.rw_write_request.proofs.parts.next_samples.Given as goal

abbrev pub invariant-loop : goal.invariant-loop
invariant-loop l = record {
  shorter : length l.rest + l.counter ≤ length l.bytes;
  found : (before whole : TimeSeries) → series_on before l.bytes ≡ Ok whole → (labels : Labels) × (series_on (record { labels = labels; samples = before.samples ++ l.samples.items }) l.rest ≡ Ok whole);
  few : length l.samples.items ≤ l.counter;
}
