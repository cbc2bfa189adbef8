-- What a sender puts of a log.
use Rattle.std.specs.Prelude.{List, map, filter}
use Rattle.rw_types.specs.Labels.{Labels}
use Rattle.rw_types.specs.LabelOrder.{labels_eq}
use Rattle.rw_head.specs.Order.{Point}
use Rattle.rw_sender.specs.Logs.{Sent}

-- the samples of a label set among those that a sender puts, as a head takes them
abbrev pub samples_sent : Labels → List Sent → List Point
samples_sent l samples =
    map (λ (s : Sent). (s.t, s.word)) (filter (λ (s : Sent). labels_eq l s.labels) samples)
