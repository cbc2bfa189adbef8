-- Inner definitions beside those of Questions.antt: only invariants, private functions and
-- proofs use them.
use Rattle.std.specs.Prelude.{◌≡◌, ℕ, ◌<◌, eqb, List, [], ◌∷◌, ◌++◌, true, false}
use Rattle.std.specs.List.{list_any}
use mathlib.Core.Option.{some}
use lib.ListN.{get_elem?}
use Rattle.atomic_table.specs.Table.{State, Step, Me}
use Rattle.rw_types.specs.Beginnings.{Begins}
use Rattle.rw_recv_head.specs.declared.question.Question.{Question}
use Rattle.rw_recv_head.specs.declared.questions.PassState.{PassState}
use Rattle.rw_recv_head.specs.declared.questions.View.{View}
use Rattle.rw_recv_head.specs.Seats.{own}

-- the number of a seat, and the questions that it has seen
pub record Sight : Type 0 where
  pub number : ℕ
  pub asked : List Question

-- nothing was asked, and there are no seats
abbrev pub nothing_known : PassState
nothing_known = record { asked = []; given = 0; back = [] }

-- the pass under the lock
abbrev pub keeper : PassState → View
keeper known = record { knows = true; known = known; sits = false; number = 0; seen = [] }

-- the same, while it speaks for a seat
abbrev pub host : PassState → ℕ → List Question → View
host known number seen = record { knows = true; known = known; sits = true; number = number; seen = seen }

-- the pass of a seat
abbrev pub sitter : ℕ → List Question → View
sitter number seen = record { knows = false; known = nothing_known; sits = true; number = number; seen = seen }

-- a pass that belongs to no seat
abbrev pub guest : View
guest = record { knows = false; known = nothing_known; sits = false; number = 0; seen = [] }

-- the first pass, which speaks for the seat of the second
abbrev pub with_seat : View → View → View
with_seat v w = record { knows = v.knows; known = v.known; sits = w.sits; number = w.number; seen = w.seen }

-- a seat that has such a number and has seen these questions is one that was given and is not back:
-- it has seen a prefix of all, with all of its own
pub record IsSeat (known : PassState) (number : ℕ) (seen : List Question) : Type 0 where
  pub given : number < known.given
  pub away : list_any (eqb number) known.back ≡ false
  pub begins : Begins seen known.asked
  pub alone : own number known.asked ≡ own number seen

-- what the rule says of one pass: the one that knows all is in one place, and one that speaks for a
-- seat is in that of its number
pub record Fits (place : ℕ) (known : PassState) (at : ℕ → ℕ) (k : ℕ) (v : View) : Type 0 where
  pub keeps : v.knows ≡ true → (k ≡ place) × (v.known ≡ known)
  pub sits : v.sits ≡ true → (k ≡ at v.number) × IsSeat known v.number v.seen

-- at most one pass knows all, and no two speak for seats with one number
pub record AreKept (s : State Question View) : Type 0 where
  pub place : ℕ
  pub known : PassState
  pub at : ℕ → ℕ
  pub fits : (k : ℕ) (v : View) → get_elem? s.views k ≡ some v → Fits place known at k v

-- the question of the step is added, and seen
abbrev pub Added : Step Question → Me Question View → ℕ → Me Question View → Type 0
Added s v found w = (q : Question) → s.said ≡ some q
    → (w ≡ (host (record v.0.known { asked = v.0.known.asked ++ q ∷ [] }) v.0.number (v.0.known.asked ++ q ∷ []), v.1))
    × IsSeat v.0.known v.0.number v.0.seen

-- the seat was returned
abbrev pub Returned : Step Question → Me Question View → ℕ → Me Question View → Type 0
Returned s v found w = (w ≡ (keeper (record v.0.known { back = v.0.number ∷ v.0.known.back }), v.1)) × IsSeat v.0.known v.0.number v.0.seen
