-- What a seat asks to answer the body of a request.
use Rattle.std.specs.Prelude.{◌≡◌, ◌⊎◌, ℕ, List, Bool, true, false}
use Rattle.rw_head.specs.Head.{State, SpellsMessage}
use Rattle.rw_recv_head.specs.Partly.{HasAskedPartly}
use Rattle.rw_recv_head.specs.Seats.{Seated, HasAsked}
use Rattle.rw_sorted_labels.specs.Sorting.{SortsBody}

-- the body as a whole; and of one that is refused, what can be taken of it, if that is wanted
abbrev pub HasAnswered : Bool → State → Seated → List ℕ → ℕ → Seated → Type 0
HasAnswered true opening old body status new = HasAskedPartly opening old body status new
HasAnswered false opening old body status new = HasAsked opening old body status new

-- in place of the body one with sorted labels, if that is wanted; nothing, if memory runs out for
-- it
abbrev pub HasAnsweredSorted : Bool → Bool → State → Seated → List ℕ → ℕ → Seated → Type 0
HasAnsweredSorted true partial opening old body status new =
    ((text : List ℕ) × SortsBody body text × HasAnswered partial opening old text status new)
    ⊎ ((status ≡ 503) × (new ≡ old) × SpellsMessage body)
HasAnsweredSorted false partial opening old body status new = HasAnswered partial opening old body status new
