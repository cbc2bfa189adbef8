-- A head that has judged a message and would take it.
use Rattle.std.specs.Prelude.{List}
use Rattle.rw_head.specs.Added.{Added}
use Rattle.rw_head.specs.Head.{State}

-- the head without the message, the head with it, and what the message adds
pub record Staging : Type 0 where
  pub before : State
  pub after : State
  pub added : List Added
