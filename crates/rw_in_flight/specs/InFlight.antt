-- Bodies that have come in part, and how much of them is in memory.
use Rattle.std.specs.Prelude.{◌≡◌, ◌⊎◌, ℕ, ◌+◌, ◌-◌, ◌<◌, List, [], ◌∷◌, Some, false, All, ◌==◌, nat_lt, if◌then◌else◌, slice_get, sum_by, set, remove}
use Rattle.rw_in_flight.specs.declared.body.Body.{Body}

-- how many bytes of some bodies have come
abbrev pub held : List Body → ℕ
held bodies = sum_by (λ b. b.bytes) bodies

-- of those whose number is at least this one, which are open
abbrev pub open_held : ℕ → List Body → ℕ
open_held first bodies = sum_by (λ b. if nat_lt b.number first then 0 else b.bytes) bodies

-- From which number on bodies stay open, if those that began first are closed, one after the
-- other, until this many bytes of open ones are closed.
unfoldable pub first_open : ℕ → ℕ → List Body → ℕ
first_open need first [] = first
first_open need first (b ∷ bs) =
    if need == 0 then first
    else if nat_lt b.number first then first_open need first bs
    else first_open (need - b.bytes) (b.number + 1) bs

-- some more bytes of the body with this number have come
pub record HasGrown (number more : ℕ) (before after : List Body) : Type 0 where
  pub place : ℕ
  pub body : Body
  pub at : slice_get before place ≡ Some body
  pub is : body.number ≡ number
  pub grown : after ≡ set before place (record { number = body.number; bytes = body.bytes + more })

-- the body with this number is gone
pub record IsGone (number : ℕ) (before after : List Body) : Type 0 where
  pub place : ℕ
  pub body : Body
  pub at : slice_get before place ≡ Some body
  pub is : body.number ≡ number
  pub gone : after ≡ remove before place

-- Why a body is closed: it was closed before, it never began, or it is one of those whose end makes
-- room for the bytes that have come.
abbrev pub IsClosed : ℕ → ℕ → ℕ → ℕ → List Body → ℕ → Type 0
IsClosed number more limit first bodies after =
    ((number < first) × (after ≡ first))
    ⊎ (All (λ b. (b.number == number) ≡ false) bodies × (after ≡ first))
    ⊎ ((limit < held bodies + more) × (after ≡ first_open (open_held first bodies + more - limit) first bodies) × (number < after))
