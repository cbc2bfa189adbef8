-- Inner definitions beside those of Bodies.antt: only invariants, private functions and
-- proofs use them.
use Rattle.std.specs.Prelude.{◌≡◌, ◌≢◌, ℕ, ◌<◌, ◌≤◌, IfOk, Bool, true, false, List, ◌++◌, length, Some, Result, Ok, Err}
use Rattle.std.specs.BTreeMap.{BTreeMap, get}
use Rattle.rw_types.specs.Labels.{Labels}
use Rattle.rw_types.specs.LabelOrder.{labels_cmp}
use Rattle.rw_write_request.specs.Message.{TimeSeries, WriteRequest}
use Rattle.rw_write_request.specs.Parts.{IsHeadOf}
use Rattle.rw_write_request.specs.Read.{read}
use Rattle.rw_write_request.specs.declared.fault.WireFault.{WireFault}
use Rattle.rw_head.specs.declared.verdict.Verdict.{Verdict}
use Rattle.rw_head.specs.declared.verdict.Verdict.TheVariants.{NoMemory}
use Rattle.rw_head.specs.Head.{status_of}
use Rattle.rw_head.specs.Store.{Store}
use Rattle.rw_head.specs.Verdicts.{LabelLimits, taken, taken_all}

-- the head of a label set, if there is one
abbrev pub HasHead : List ℕ → Labels → Type 0
HasHead head labels = 0 < length head → IsHeadOf head labels

-- the series begins with a head of the label set at this place
pub record IsKnown (index : BTreeMap Labels ℕ) (series : List ℕ) (place : ℕ) (rest : List ℕ) : Type 0 where
  pub labels : Labels
  pub head : List ℕ
  pub stands : get labels_cmp index labels ≡ Some place
  pub is : IsHeadOf head labels
  pub parts : series ≡ head ++ rest

-- the series has at most as many labels as these limits allow, if it is a valid one
abbrev pub HasFewLabels : LabelLimits → Result TimeSeries WireFault → Type 0
HasFewLabels limits series = IfOk series (λ s. length s.labels ≤ limits.max_labels)

-- the series is taken, which leaves this store
abbrev pub Takes : LabelLimits → Store → Result TimeSeries WireFault → Store → Type 0
Takes limits store series next = (s : TimeSeries) × (series ≡ Ok s) × (taken limits store s ≡ Ok next)

-- there is no series, or it is refused with 400 Bad Request
abbrev pub Refuses : LabelLimits → Store → Result TimeSeries WireFault → Type 0
Refuses limits store (Ok s) = (v : Verdict) × (taken limits store s ≡ Err v) × (status_of v ≡ 400)
Refuses limits store (Err e) = Unit {0}

-- What a function that stages a series from its bytes says about it, unless memory ran out.
abbrev pub SeriesGives : Result (Unit {0}) Verdict → LabelLimits → Store → Result TimeSeries WireFault → Store → Type 0
SeriesGives (Ok u) limits store series next = Takes limits store series next
SeriesGives (Err v) limits store series next = v ≢ NoMemory → (status_of v ≡ 400) × Refuses limits store series

-- the same of one that stages it only if its labels are known
abbrev pub KnownGives : Result Bool Verdict → LabelLimits → Store → Result TimeSeries WireFault → Store → Type 0
KnownGives (Ok true) limits store series next = Takes limits store series next
KnownGives (Ok false) limits store series next = next ≡ store
KnownGives (Err v) limits store series next = v ≢ NoMemory → (status_of v ≡ 400) × Refuses limits store series

-- a series was known, if it was not refused
abbrev pub known_of : Result (Unit {0}) Verdict → Result Bool Verdict
known_of (Ok u) = Ok true
known_of (Err v) = Err v

-- there is no message, or it is refused with 400 Bad Request
abbrev pub RefusesAll : LabelLimits → Store → Result WriteRequest WireFault → Type 0
RefusesAll limits store (Ok m) = (v : Verdict) × (taken_all limits (Ok store) m ≡ Err v) × (status_of v ≡ 400)
RefusesAll limits store (Err e) = Unit {0}

-- the same of one that stages a body
abbrev pub BodyGives : Result (Unit {0}) Verdict → LabelLimits → Store → List ℕ → Store → Type 0
BodyGives (Ok u) limits store body next = (m : WriteRequest) × (read body ≡ Ok m) × (taken_all limits (Ok store) m ≡ Ok next)
BodyGives (Err v) limits store body next = v ≢ NoMemory → (status_of v ≡ 400) × RefusesAll limits store (read body)
