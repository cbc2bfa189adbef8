-- The exchanges that a transport has noted.
use Rattle.std.specs.Prelude.{List, map}
use Rattle.rw_worker.specs.Transcript.{Exchange, exchange_of}
use Rattle.test_sender.specs.declared.memory.Note.{Note}

abbrev pub noted : List Note → List Exchange
noted notes = map (λ (n : Note). exchange_of n.request.items n.answer) notes
