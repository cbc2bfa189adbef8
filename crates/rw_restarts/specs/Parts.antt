-- Samples that come next in a list of which a head holds a prefix.
use Rattle.std.specs.Prelude.{◌≡◌, if◌then◌else◌, List, [], ◌∷◌, ◌++◌, None, Ok}
use Rattle.std.specs.List.{AllByRecursion}
use Rattle.rw_types.specs.Beginnings.{Begins}
use Rattle.rw_types.specs.Labels.{Labels}
use Rattle.rw_types.specs.Rising.{Rises}
use Rattle.rw_types.specs.LabelOrder.{labels_eq}
use Rattle.rw_write_request.specs.Message.{TimeSeries, WriteRequest}
use Rattle.rw_head.specs.Lists.{IsEarlier}
use Rattle.rw_head.specs.Order.{Point, points}
use Rattle.rw_head.specs.Store.{Store, list_of}
use Rattle.rw_head.specs.Verdicts.{LabelLimits, refusal, taken_all}

-- the samples that a message has of a label set, in order
abbrev pub points_in : Labels → WriteRequest → List Point
points_in l [] = []
points_in l (s ∷ ss) = (if labels_eq l s.labels then points s.samples else []) ++ points_in l ss

-- these samples are a part of the whole list, and all that is before them is held
pub record IsNextPart (whole held xs : List Point) : Type 0 where
  pub before : List Point
  pub more : List Point
  pub place : whole ≡ before ++ (xs ++ more)
  pub reached : Begins before held

-- the list of each label set rises
abbrev pub EachListRises : (Labels → List Point) → Type 0
EachListRises whole = (l : Labels) → Rises IsEarlier (whole l)

-- no label set of the message is refused
abbrev pub AreWithinLimits : LabelLimits → WriteRequest → Type 0
AreWithinLimits limits m =
    AllByRecursion (λ (s : TimeSeries). refusal limits s.labels ≡ None) m

-- a list `next` that begins with what was held, and with what came and all before it
pub record IsLonger (held reached next whole : List Point) : Type 0 where
  pub grows : Begins held next
  pub has : Begins reached next
  pub within : Begins next whole

-- the head takes the message, and each of its lists is then such a longer one
pub record TakesAllPoints (limits : LabelLimits) (whole : Labels → List Point) (store : Store)
    (m : WriteRequest) (next : (l : Labels) → IsNextPart (whole l) (list_of store l) (points_in l m))
    : Type 0 where
  pub after : Store
  pub taken : taken_all limits (Ok store) m ≡ Ok after
  pub longer : (l : Labels) → IsLonger (list_of store l) ((next l).before ++ points_in l m)
      (list_of after l) (whole l)

-- so it is with each message that has of each label set a next part of a list that rises
abbrev pub NextPartIsAccepted : LabelLimits → (Labels → List Point) → Store → WriteRequest → Type 0
NextPartIsAccepted limits whole store m =
    EachListRises whole → ((l : Labels) → Begins (list_of store l) (whole l))
    → AreWithinLimits limits m
    → (next : (l : Labels) → IsNextPart (whole l) (list_of store l) (points_in l m))
    → TakesAllPoints limits whole store m next
