-- A log that is there whole, as a list of readers, and what was read of it.
use Rattle.std.specs.Prelude.{◌≡◌, ℕ, ◌≤◌, Bool, true, false, List, [], ◌∷◌, length, ⊤, Option, None, Some}
use Rattle.std.specs.Io.KnownBytes.{Consumes, IsAtEnd}
use Rattle.rw_follow.specs.Meals.{Meal}
use Rattle.rw_types.specs.declared.transfer.ReadFault.{ReadFault}
use Rattle.rw_types.specs.declared.transfer.ReadFault.TheVariants as fault

-- a reader returned all that it had left, if that is known
abbrev pub IsAllOf : Option (List ℕ) → List ℕ → Type 0
IsAllOf None text = ⊤
IsAllOf (Some left) text = text ≡ left

-- Of readers that had this left these segments were read whole, and this of the next one, and then
-- they have that left, the current one first. The last one is not over: no segment follows it.
abbrev pub AreRead : List (Option (List ℕ)) → List (List ℕ) → List ℕ → List (Option (List ℕ))
    → Type 0
AreRead [] whole begun now = (whole ≡ []) × (begun ≡ []) × (now ≡ [])
AreRead (left ∷ lefts) [] begun [] = ⊥
AreRead (left ∷ lefts) [] begun (now ∷ later) = Consumes left now begun × (later ≡ lefts)
AreRead (left ∷ []) (text ∷ whole) begun now = ⊥
AreRead (left ∷ next ∷ lefts) (text ∷ whole) begun now =
    IsAllOf left text × AreRead (next ∷ lefts) whole begun now

-- the current one has nothing left
abbrev pub IsFirstAtEnd : List (Option (List ℕ)) → Type 0
IsFirstAtEnd [] = ⊤
IsFirstAtEnd (left ∷ lefts) = IsAtEnd left

-- this is all that the readers had left
pub record AreAllRead (lefts : List (Option (List ℕ))) (meal : Meal) : Type 0 where
  pub now : List (Option (List ℕ))
  pub read : AreRead lefts meal.whole meal.begun now
  pub at_end : IsFirstAtEnd now
  pub last : length now ≤ 1

-- the current one has failed, or not
abbrev pub HasFirstFailed : List Bool → Type 0
HasFirstFailed [] = ⊥
HasFirstFailed (failed ∷ more) = failed ≡ true

abbrev pub IsFirstSound : List Bool → Type 0
IsFirstSound [] = ⊤
IsFirstSound (failed ∷ more) = failed ≡ false

-- no read of these readers can fail
abbrev pub AreSure : List Bool → Type 0
AreSure [] = ⊤
AreSure (sure ∷ sures) = (sure ≡ true) × AreSure sures

-- a read may fail if one of them is not sure, and takes no memory
abbrev pub MayFail : List Bool → ReadFault → Type 0
MayFail sures fault.OutOfMemory = ⊥
MayFail sures fault.Failed = AreSure sures → ⊥

-- a single reader may fail if it is not sure; of memory nothing is said
abbrev pub MayFailAlone : Bool → ReadFault → Type 0
MayFailAlone sure fault.OutOfMemory = ⊤
MayFailAlone sure fault.Failed = sure ≡ true → ⊥
