-- Inner definitions beside those of RequestReading.antt: only invariants, private functions and
-- proofs use them.
use Rattle.std.specs.Prelude.{◌≡◌, ℕ, ◌<◌, ◌≤◌, List, [], ◌++◌, length, drop, Option, None, Some}
use Rattle.std.specs.Io.KnownBytes.{Consumes, IsAtEnd}
use Rattle.httparse.specs.Grammar.{RequestHead, print_request}
use Rattle.rw_endpoint.specs.Judgement.{finding_of}
use Rattle.rw_endpoint.specs.declared.head.RequestReading.{RequestReading}
use Rattle.rw_endpoint.specs.declared.head.RequestReading.TheVariants as Seen
use Rattle.rw_endpoint.specs.declared.input.Front.{Front}
use Rattle.rw_endpoint.specs.declared.input.Front.TheVariants.{Head, Never, End}
use Rattle.rw_endpoint.specs.Reading.{BeginsWithHead, NeverHasHead, IsPartOfHead}
use Rattle.rw_endpoint.specs.declared.intake.Intake.{Intake}

-- what is found in the bytes that have come
abbrev pub Judges : List ℕ → Intake → List ℕ → RequestReading → Type 0
Judges path intake input (Seen.Head finding len) =
    (head : RequestHead) × BeginsWithHead input head (drop len input) × (len ≡ length (print_request head))
    × (finding ≡ finding_of path intake head)
Judges path intake input Seen.More = IsPartOfHead input
Judges path intake input Seen.Never = NeverHasHead input

-- what is at the front of the bytes that wait, if the reader has some left after them
abbrev pub HasRead : List ℕ → Intake → List ℕ → Option (List ℕ) → Front → Type 0
HasRead path intake pending left (Head finding len) = Judges path intake pending (Seen.Head finding len) × (len ≤ length pending)
HasRead path intake pending left Never = NeverHasHead pending
HasRead path intake pending left End = IsPartOfHead pending × IsAtEnd left

-- a body of n bytes was taken, or the input ended before
abbrev pub HasBody : Option (List ℕ) → Option (List ℕ) → ℕ → Option (List ℕ) → Type 0
HasBody old new n (Some body) = Consumes old new body × (length body ≡ n)
HasBody old new n None = (part : List ℕ) × Consumes old (Some []) part × (length part < n)

-- Some bytes more were read, if it is recorded what was read: of these that is so.
abbrev pub ReadsMore : Option (List ℕ) → Option (List ℕ) → (List ℕ → Type 0) → Type 0
ReadsMore old new is_so = (past : List ℕ) → old ≡ Some past → (more : List ℕ) × (new ≡ Some (past ++ more)) × is_so more
