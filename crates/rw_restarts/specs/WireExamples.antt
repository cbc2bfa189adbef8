-- A small history over the wire: the worker of a run sends one sample, which is acknowledged. Then
-- the receiver is started again. Which queue and which pauses the worker has, and which memory
-- shares the labels, does not matter.
use Rattle.std.specs.Prelude.{ℕ, zero, suc, codes, List, [], ◌∷◌, Some}
use Rattle.std.specs.Arc.{arc_with_value}
use Rattle.std.specs.declared.alloc.Global.{Global}
use Rattle.std.specs.declared.sync.Arc.{Arc}
use Rattle.std.specs.FinMap.{empty}
use Rattle.rw_types.specs.Labels.{Labels}
use Rattle.rw_relabel.specs.Choices.{legacy}
use Rattle.rw_retry.specs.declared.judgement.Judgement.TheVariants.{Done}
use Rattle.rw_plain_queue.specs.Items.{Placed}
use Rattle.rw_plain_queue.specs.declared.item.Item.{Item}
use Rattle.rw_plain_queue.specs.declared.item.Item.TheVariants.{Sample}
use Rattle.rw_shard_core.specs.declared.config.Target.{Target}
use Rattle.rw_worker.specs.Setups.{WorkerSetup}
use Rattle.rw_worker.specs.Steps.{Step, Takes, Freezes, Sends}
use Rattle.rw_worker.specs.Transcript.{Exchange, batch_request, exchange_of, reply_of_status}
use Rattle.rw_fleet.specs.ShardHistories.{ShardHistory}
use Rattle.rw_head.specs.Store.{Store}
use Rattle.rw_machine.specs.Worlds.{Setup}
use Rattle.rw_machine.specs.declared.event.How.TheVariants.{Plain}
use Rattle.rw_restarts.specs.Stopped.{run_from_start}
use Rattle.rw_restarts.specs.WireReceivers.{RunOfWorkers, ExchangePlace, WireEvent, Comes, Reopens, WireState}
use Rattle.rw_restarts.specs.Examples.{example_series, first, sent_with, limits, with_first}

abbrev pub target : Target
target = record { host = codes "localhost:9090"; path = codes "/api/v1/write" }

abbrev pub receiver : Setup
receiver = record {
  target = target;
  shards = 1;
  capacity = 1;
  batch = 1;
  choice = legacy;
  limits = limits;
  max_body = 1024;
  busy = 0;
}

-- the only exchange
abbrev pub the_place : ExchangePlace
the_place = record { run = 0; epoch = 0; shard = 0; number = 0 }

abbrev pub events : List WireEvent
events = Comes the_place Plain 204 ∷ Reopens ∷ []

abbrev pub state_with : Store → WireState
state_with store = record {
  head = record { store = store; limits = limits; busy = 0 };
  acknowledged = store;
}

-- its state before each event, and at the end
abbrev pub states : ℕ → WireState
states zero = state_with empty
states (suc n) = state_with with_first

module _ (worker : WorkerSetup) (shared : Arc Labels Global) where
  abbrev pub sample : Placed
  sample = record {
    place = record {
      epoch = worker.queue.epoch;
      shard = worker.queue.shard;
      seq = 0;
      pos = 0;
      series = 0;
    };
    t = first.0;
    word = first.1;
    labels = example_series;
  }

  abbrev pub item : Item
  item = Sample sample.place sample.t sample.word (arc_with_value shared example_series)

  abbrev pub exchange : Exchange
  exchange = exchange_of (batch_request target (sample ∷ [])) (reply_of_status 204)

  -- ---- the sender
  abbrev pub setup : WorkerSetup
  setup = record worker { target = target; batch = 1 }

  abbrev pub steps : List Step
  steps = Takes item ∷ Freezes ∷ Sends exchange ∷ []

  abbrev pub shard : ShardHistory
  shard = record { setup = setup; put = item ∷ [] }

  abbrev pub run : RunOfWorkers
  run = record {
    run = run_from_start (sent_with first (Some Done) ∷ []);
    epochs = (shard ∷ []) ∷ [];
    steps = λ epoch number. steps;
  }
