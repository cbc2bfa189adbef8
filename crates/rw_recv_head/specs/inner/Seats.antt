-- Inner definitions beside those of Seats.antt: only invariants, private functions and
-- proofs use them.
use Rattle.std.specs.Prelude.{◌≡◌, ℕ, ◌+◌, ◌<◌, ◌≤◌, [], Some, slice_get}
use Rattle.rw_head.specs.Head.{State}
use Rattle.rw_head.specs.Store.{total}
use Rattle.rw_head.specs.Growth.{EachRises}
use Rattle.rw_recv_head.specs.declared.question.Question.{Question}
use Rattle.rw_recv_head.specs.declared.questions.PassState.{PassState}
use Rattle.rw_recv_head.specs.Seats.{store_after, bodies_of, most}

-- what is under the lock
pub record Held : Type 0 where
  pub head : State
  pub questions : PassState

-- What the lock keeps: the head has taken what it takes of these questions, each of which is of a
-- seat that was given; the timestamps of each of its lists rise; and the ledger has `all` parts,
-- one for each seat and one here, with what could still be stored.
pub record IsKept (opening : State) (all : ℕ) (held : Held) (parts rest : ℕ) : Type 0 where
  pub rises : EachRises held.head.store
  pub holds : held.head.store ≡ store_after opening (bodies_of held.questions.asked)
  pub limits : held.head.limits ≡ opening.limits
  pub less_busy : held.head.busy ≤ opening.busy
  pub each : (n : ℕ) (q : Question) → slice_get held.questions.asked n ≡ Some q → q.seat < held.questions.given
  pub all_given : all ≡ held.questions.given + 1
  pub none_back : held.questions.back ≡ []
  pub one_part : parts ≡ 1
  pub adds_up : total held.head.store + rest ≡ most
