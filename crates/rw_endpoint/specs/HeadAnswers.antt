-- The head as what answers bodies.
use Rattle.std.specs.Prelude.{◌≡◌, ◌⊎◌, ℕ, List}
use Rattle.rw_head.specs.Head.{State, SpellsMessage, answer}

-- its verdict on the body; or 503, if memory ran out for a message, and the head stays as it
-- was
abbrev pub HasAnswered : State → List ℕ → ℕ → State → Type 0
HasAnswered old body status new =
    ((status ≡ (answer old body).status) × (new ≡ (answer old body).head))
    ⊎ ((status ≡ 503) × (new ≡ old) × (old.busy ≡ 0) × SpellsMessage body)
