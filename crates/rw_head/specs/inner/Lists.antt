-- Inner definitions beside those of Lists.antt: only invariants, private functions and
-- proofs use them.
use Rattle.std.specs.Prelude.{◌≡◌, ◌≢◌, ℕ, ◌+◌, ◌-◌, ◌^◌, ◌<◌, ◌≤◌, Bool, true, false, if◌then◌else◌, nat_eq, List, [], ◌∷◌, ◌++◌, length, map, slice_index, slice_index_or, slice_set, take, AllPairs, Option, Some, None, Result, Ok, Err}
use Rattle.std.specs.BTreeMap.{BTreeMap, get, Updates}
use Rattle.std.specs.FinMap.{empty}
use Rattle.std.specs.List.{list_any}
use Rattle.rw_types.specs.Beginnings.{Begins}
use Rattle.rw_types.specs.Labels.{Labels}
use Rattle.rw_types.specs.LabelOrder.{labels_cmp, labels_eq}
use Rattle.rw_head.specs.declared.verdict.Verdict.{Verdict}
use Rattle.rw_head.specs.declared.verdict.Verdict.TheVariants.{OutOfOrder, NoMemory}
use Rattle.rw_head.specs.Added.{Added}
use Rattle.rw_head.specs.Order.{Point}
use Rattle.rw_head.specs.Store.{Store, with_list, total}
use Rattle.rw_head.specs.Lists.{Lists, no_lists, has_samples}

-- the store of these lists
abbrev pub store_of_lists : List (Labels × List Point) → Store
store_of_lists [] = empty
store_of_lists (e ∷ es) = with_list e.0 e.1 (store_of_lists es)

-- the lists at the places of their label sets
abbrev pub listed : (Lists → List Point) → List Lists → List (Labels × ℕ) → List (Labels × List Point)
listed f lists places = map (λ e. (e.0, f (slice_index_or lists e.1 no_lists))) places

unfoldable pub kept_store : List (Labels × ℕ) → List Lists → Store
kept_store places lists = store_of_lists (listed (λ l. l.kept) lists places)

unfoldable pub staged_store : List (Labels × ℕ) → List Lists → Store
staged_store places lists = store_of_lists (listed (λ l. l.staged) lists places)

-- each label set has its own place
pub record HasPlaces (index : BTreeMap Labels ℕ) (lists : List Lists) : Type 0 where
  pub within : (l : Labels) (n : ℕ) → get labels_cmp index l ≡ Some n → n < length lists
  pub apart : (l m : Labels) (n : ℕ) → get labels_cmp index l ≡ Some n → get labels_cmp index m ≡ Some n → l ≡ m

-- only the lists at these places differ from what is kept
pub record Settled (touched : List ℕ) (lists : List Lists) : Type 0 where
  pub within : (k : ℕ) → k < length touched → slice_index touched k < length lists
  pub others : (n : ℕ) → n < length lists → list_any (nat_eq n) touched ≡ false → (slice_index_or lists n no_lists).kept ≡ (slice_index_or lists n no_lists).staged

-- nothing is staged in any list
abbrev pub AllSettled : List Lists → Type 0
AllSettled lists = (n : ℕ) → n < length lists → (slice_index_or lists n no_lists).kept ≡ (slice_index_or lists n no_lists).staged

abbrev pub more_count : Lists → ℕ
more_count x = length x.staged - length x.kept

-- A place is noted when its list had no staged samples before a series, and has some after it.
abbrev pub note_of : List ℕ → ℕ → ℕ → ℕ → List ℕ
note_of touched n before after =
    if nat_eq before 0 then (if nat_eq after 0 then touched else touched ++ n ∷ []) else touched

-- Each place is noted once, and its list has staged samples. In each list they follow what is kept.
pub record AreNoted (touched : List ℕ) (lists : List Lists) : Type 0 where
  pub once : AllPairs (λ m n. m ≢ n) touched
  pub grown : (k : ℕ) → k < length touched → 0 < more_count (slice_index_or lists (slice_index_or touched k 0) no_lists)
  pub begun : (n : ℕ) → n < length lists → Begins (slice_index_or lists n no_lists).kept (slice_index_or lists n no_lists).staged

-- samples were staged in the list at place n, which is noted, and they are counted
pub record IsStagedAt (old new : List Lists) (touched noted : List ℕ) (count more n : ℕ) : Type 0 where
  pub list : new ≡ slice_set old n (slice_index_or new n no_lists)
  pub gone : (slice_index_or new n no_lists).gone ≡ (slice_index_or old n no_lists).gone
  pub kept : (slice_index_or new n no_lists).kept ≡ (slice_index_or old n no_lists).kept
  pub grown : length (slice_index_or old n no_lists).staged ≤ length (slice_index_or new n no_lists).staged
  pub begun : Begins (slice_index_or new n no_lists).kept (slice_index_or new n no_lists).staged
  pub note : noted ≡ note_of touched n (more_count (slice_index_or old n no_lists)) (more_count (slice_index_or new n no_lists))
  pub counted : more + length (slice_index_or old n no_lists).staged ≡ count + length (slice_index_or new n no_lists).staged

-- The last lists are those of the fresh label sets in the index, and nothing of these is kept. Of
-- each other list something is kept.
pub record IsFresh (index : BTreeMap Labels ℕ) (lists : List Lists) (fresh : List Labels) : Type 0 where
  pub few : length fresh ≤ length lists
  pub named : (l : Labels) (n : ℕ) → get labels_cmp index l ≡ Some n → length lists ≤ n + length fresh → list_any (labels_eq l) fresh ≡ true
  pub last : (l : Labels) (n : ℕ) → list_any (labels_eq l) fresh ≡ true → get labels_cmp index l ≡ Some n → length lists ≤ n + length fresh
  pub empty : (n : ℕ) → n < length lists → length lists ≤ n + length fresh → (slice_index_or lists n no_lists).kept ≡ []
  pub others : (n : ℕ) → n + length fresh < length lists → has_samples (slice_index_or lists n no_lists).kept ≡ true

-- each list has samples, with those that are staged
abbrev pub AllFilled : List Lists → Type 0
AllFilled lists = (n : ℕ) → n < length lists → has_samples (slice_index_or lists n no_lists).staged ≡ true

-- a label set that had no list has the last one, with its place noted
pub record IsAdded (index new : BTreeMap Labels ℕ) (old lists : List Lists) (touched noted : List ℕ) (fresh named : List Labels) (l : Labels) (x : Lists) : Type 0 where
  pub place : Updates labels_cmp index new l (Some (length old))
  pub list : lists ≡ old ++ x ∷ []
  pub note : noted ≡ touched ++ length old ∷ []
  pub name : named ≡ fresh ++ l ∷ []

-- the label sets by place, without the last ones, which a message brought
abbrev pub settled_names : List Labels → List Labels → List Labels
settled_names names fresh = take (length names - length fresh) names

-- the two stores, what is staged of each label set, how many places are noted that a message has
-- touched or made, the label sets by place, without those that the message brought, and whether
-- samples may be gone from memory
pub record Stores : Type 0 where
  pub kept : Store
  pub staged : Store
  pub added : List Added
  pub noted : ℕ
  pub placed : List Labels
  pub forgets : Bool

-- What a function that stages samples says is what the order rule gives, unless memory ran out.
abbrev pub ListGives : Result (Unit {0}) Verdict → Option (List Point) → List Point → Type 0
ListGives (Ok u) given xs = given ≡ Some xs
ListGives (Err v) given xs = v ≢ NoMemory → (v ≡ OutOfOrder) × (given ≡ None)

-- the same of one that stages series
abbrev pub StoreGives : Result (Unit {0}) Verdict → Result Store Verdict → Store → Type 0
StoreGives (Ok u) given store = given ≡ Ok store
StoreGives (Err v) given store = v ≢ NoMemory → given ≡ Err v

-- Lists at their places, of which those at touched places differ from what is kept, and the last
-- are of fresh label sets. The samples that are kept are counted, and those that are staged after
-- them.
pub record IsSound (index : BTreeMap Labels ℕ) (lists : List Lists) (touched : List ℕ) (fresh : List Labels) (count staged_count : ℕ) : Type 0 where
  pub places : HasPlaces index lists
  pub settled : Settled touched lists
  pub noted : AreNoted touched lists
  pub brought : IsFresh index lists fresh
  pub filled : AllFilled lists
  pub counted : count ≡ total (kept_store index.entries lists)
  pub counted_staged : count + staged_count ≡ total (staged_store index.entries lists)
  pub few : count + staged_count ≤ 2 ^ 60

-- all places are below that number
abbrev pub AreWithin : ℕ → List (Labels × ℕ) → Type 0
AreWithin high [] = Unit {0}
AreWithin high (e ∷ es) = (e.1 < high) × AreWithin high es
