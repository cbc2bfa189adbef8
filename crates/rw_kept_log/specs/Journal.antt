-- What the calls of a journal do to its segments, and what a crash may leave between two syncs.
use Rattle.std.specs.Prelude.{◌<◌, ◌≡◌, ◌⊎◌, ℕ, ◌≤◌, List, [], ◌∷◌, ◌++◌, length, take, Result, IsErrOf}
use Rattle.rw_kept_log.specs.declared.journal.JournalError.{JournalError}
use Rattle.rw_kept_log.specs.declared.journal.JournalError.TheVariants.{Failed}

-- the segments of a journal, in order, each as its bytes
abbrev pub Segments : Type 0
Segments = List (List ℕ)

-- the last segment is changed in this way, and no other
abbrev pub on_last : (List ℕ → List ℕ) → Segments → Segments
on_last f [] = []
on_last f (s ∷ []) = f s ∷ []
on_last f (s ∷ t ∷ ss) = s ∷ on_last f (t ∷ ss)

-- these bytes are appended to the last segment
abbrev pub with_more : Segments → List ℕ → Segments
with_more segments more = on_last (λ s. s ++ more) segments

-- a crash leaves this and nothing else
abbrev pub Only : Segments → (Segments → Type 0) → Type 0
Only segments outcomes = (c : Segments) → outcomes c → c ≡ segments

-- each outcome of a crash was one before
abbrev pub NoMore : (Segments → Type 0) → (Segments → Type 0) → Type 0
NoMore old new = (c : Segments) → new c → old c

-- What a crash leaves while bytes are being appended to the last segment: all that was there, and
-- after it a torn part of these bytes, which is no longer than they are.
pub record IsTornEnd (tears : List ℕ → List ℕ → Type 0) (bytes : List ℕ) (old left : Segments) : Type 0 where
  pub more : List ℕ
  pub torn : tears bytes more
  pub no_longer : length more ≤ length bytes
  pub folder : left ≡ with_more old more

-- What a crash leaves while the last segment is being cut to n bytes: it is cut there or later.
pub record IsCutEnd (n : ℕ) (old left : Segments) : Type 0 where
  pub at : ℕ
  pub no_shorter : n ≤ at
  pub folder : left ≡ on_last (take at) old

-- What a crash leaves while a next segment is being begun: it exists and is empty, or it does not
-- exist.
abbrev pub IsBegun : Segments → Segments → Type 0
IsBegun old left = (left ≡ old) ⊎ (left ≡ old ++ [] ∷ [])

-- Time goes on: a crash since t might have left what it might have left before, or what it may
-- leave now.
pub record Elapses (before now : ℕ) (past since : ℕ → Segments → Type 0) (may_leave : Segments → Type 0) : Type 0 where
  pub later : before ≤ now
  pub nothing_else : (t : ℕ) (c : Segments) → t ≤ before → since t c → past t c ⊎ may_leave c
  pub keeps : (t : ℕ) (c : Segments) → t ≤ before → past t c → since t c

-- A crash at any moment since old leaves segments that have P.
pub record LeavesOnly {D : Type 0} (moment : D → ℕ) (left_since : D → ℕ → Segments → Type 0) (old new : D) (P : Segments → Type 0) : Type 0 where
  pub later : moment old ≤ moment new
  pub each : (c : Segments) → left_since new (moment old) c → P c
  -- for a run that began earlier
  pub before : (t : ℕ) (c : Segments) → t ≤ moment old → left_since new t c → left_since old t c ⊎ P c

-- `Failed` is returned only if the device has failed since
pub record HasCause {T : Type 0} (before now : ℕ) (result : Result T JournalError) : Type 0 where
  pub later : before ≤ now
  pub failed : IsErrOf result Failed → before < now
