-- Request heads at the front of an input, and bodies after them.
use Rattle.std.specs.Prelude.{ℕ, ◌<◌, ◌≤◌, List, ◌++◌, length}
use Rattle.httparse.specs.Grammar.{RequestHead, ReadsRequest, MayBecomeRequest, print_request}

-- the input is a head within the limits, and then the rest
abbrev pub BeginsWithHead : List ℕ → RequestHead → List ℕ → Type 0
BeginsWithHead input head rest =
    ReadsRequest input head rest × (length (print_request head) ≤ 8192) × (length head.fields ≤ 64)

-- no such head is at the front
abbrev pub HasNoHead : List ℕ → Type 0
HasNoHead input = (head : RequestHead) (rest : List ℕ) → ¬ (BeginsWithHead input head rest)

-- and none will, whatever follows
abbrev pub NeverHasHead : List ℕ → Type 0
NeverHasHead input = (more : List ℕ) → HasNoHead (input ++ more)

-- a head is not there yet: the bytes are fewer than a head may have, and some of the grammar begin
-- so
abbrev pub IsPartOfHead : List ℕ → Type 0
IsPartOfHead input = HasNoHead input × MayBecomeRequest input × (length input < 8192)
