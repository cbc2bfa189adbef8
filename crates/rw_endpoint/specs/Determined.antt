-- If a body has one answer, a connection has one text of replies.
use Rattle.std.specs.Prelude.{◌≡◌, ℕ, List}
use Rattle.rw_endpoint.specs.Serving.{Serves}
use Rattle.rw_endpoint.specs.declared.serve_end.ServeEnd.{ServeEnd}
use Rattle.rw_endpoint.specs.declared.serve_end.ServeEnd.TheVariants.{Eof, Closed, Torn, Device, OutOfMemory}
use Rattle.rw_endpoint.specs.declared.intake.Intake.{Intake}

-- a body has one status, and leaves one state
abbrev pub IsFunction : {S : Type 0} → (S → List ℕ → ℕ → S → Type 0) → Type 0
IsFunction {S} answers =
    (old : S) (body : List ℕ) (status other : ℕ) (new last : S) → answers old body status new → answers old body other last →
    (status ≡ other) × (new ≡ last)

-- nothing was lost: all requests have their replies, up to the end of the input or to one that
-- closes
abbrev pub IsServedWhole : ServeEnd → Type 0
IsServedWhole Eof = Unit {0}
IsServedWhole Closed = Unit {0}
IsServedWhole Torn = ⊥
IsServedWhole Device = ⊥
IsServedWhole OutOfMemory = ⊥

-- an input that is served whole has one text of replies, and leaves one state
abbrev pub AreDetermined : {S : Type 0} → (S → List ℕ → ℕ → S → Type 0) → Type 0
AreDetermined {S} answers =
    (path : List ℕ) (intake : Intake) (input : List ℕ) (old : S) (text other : List ℕ) (new last : S) (how : ServeEnd) →
    Serves path intake answers input old text new how → Serves path intake answers input old other last how → IsServedWhole how →
    (text ≡ other) × (new ≡ last)
