-- Where a queue gets marks so that no batch takes more bytes than a limit.
use Rattle.std.specs.Prelude.{◌≡◌, ◌⊎◌, ℕ, ◌+◌, ◌-◌, ◌≤◌, List, [], ◌∷◌, ◌++◌, Option, Some, None, Bool, true, false, not, nat_le, ⊤}
use Rattle.rw_plain_queue.specs.declared.item.Item.{Item}
use Rattle.rw_plain_queue.specs.declared.item.Item.TheVariants.{Sample, Flush, End}
use Rattle.rw_sender.specs.Sizes.{size_of_sample}

abbrev pub item_bytes : Item → ℕ
item_bytes (Sample place t word labels) = size_of_sample labels.value (word, t)
item_bytes Flush = 0
item_bytes (End kind) = 0

-- what the samples after the last mark count, if this much was counted before these items
abbrev pub bytes_after : ℕ → List Item → ℕ
bytes_after n [] = n
bytes_after n (Sample place t word labels ∷ xs) = bytes_after (n + size_of_sample labels.value (word, t)) xs
bytes_after n (Flush ∷ xs) = bytes_after 0 xs
bytes_after n (End kind ∷ xs) = bytes_after 0 xs

-- what the samples after the last mark of a queue count
abbrev pub open_bytes : List Item → ℕ
open_bytes items = bytes_after 0 items

abbrev pub AreOnlySamples : List Item → Type 0
AreOnlySamples [] = ⊤
AreOnlySamples (Sample place t word labels ∷ xs) = AreOnlySamples xs
AreOnlySamples (Flush ∷ xs) = ⊥
AreOnlySamples (End kind ∷ xs) = ⊥

-- a sample that counts this much does not fit into what is left of the limit after those counted;
-- without a limit each one fits
abbrev pub is_over_mark : Option ℕ → ℕ → ℕ → Bool
is_over_mark None counted bytes = false
is_over_mark (Some limit) counted bytes = not (nat_le bytes (limit - counted))

-- an item, after a Flush if that is asked for
abbrev pub behind_cut : Bool → Item → List Item
behind_cut true x = Flush ∷ x ∷ []
behind_cut false x = x ∷ []

-- what is counted with this much more: it alone after a Flush
abbrev pub counted_with : Bool → ℕ → ℕ → ℕ
counted_with true counted bytes = bytes
counted_with false counted bytes = counted + bytes

-- samples, with a Flush before each that would take what was counted since the last mark above the
-- limit, and no other mark
abbrev pub with_cuts : Option ℕ → ℕ → List Item → List Item
with_cuts limit counted [] = []
with_cuts limit counted (x ∷ xs) =
    let over = is_over_mark limit counted (item_bytes x) in
    behind_cut over x ++ with_cuts limit (counted_with over counted (item_bytes x)) xs

-- each sample is the first one after a mark, or what is counted with it is within the limit
abbrev pub WithinFrom : ℕ → ℕ → List Item → Type 0
WithinFrom limit n [] = ⊤
WithinFrom limit n (Sample place t word labels ∷ xs) =
    ((n ≡ 0) ⊎ (n + size_of_sample labels.value (word, t) ≤ limit)) × WithinFrom limit (n + size_of_sample labels.value (word, t)) xs
WithinFrom limit n (Flush ∷ xs) = WithinFrom limit 0 xs
WithinFrom limit n (End kind ∷ xs) = WithinFrom limit 0 xs

abbrev pub StaysWithinLimit : ℕ → List Item → Type 0
StaysWithinLimit limit items = WithinFrom limit 0 items
