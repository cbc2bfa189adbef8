-- One series of a message after the other.
use Rattle.std.proofs.Common.{◌≡◌, ℕ, ◌+◌, ◌<◌, suc, [], ◌∷◌, length, drop, get_or, Result, Ok, Err, refl, sym, ◌∙◌, ap, arith}
use Rattle.std.proofs.Math.Seq.{drop-cons}
use Rattle.rw_write_request.specs.Message.{TimeSeries, WriteRequest}
use Rattle.rw_head.specs.declared.verdict.Verdict.{Verdict}
use Rattle.rw_head.specs.Store.{Store}
use Rattle.rw_head.specs.Verdicts.{LabelLimits, taken, taken_all}

pub taken_all-err : (limits : LabelLimits) (v : Verdict) (ss : WriteRequest) → (let no : Result Store Verdict = Err v in taken_all limits no ss ≡ no)
taken_all-err limits v [] = refl
taken_all-err limits v (s ∷ ss) = taken_all-err limits v ss

taken_on : (limits : LabelLimits) (ss : WriteRequest) (i : ℕ) (s : TimeSeries) (store : Store) → i < length ss → s ≡ get_or ss i s
    → taken_all limits (Ok store) (drop i ss) ≡ taken_all limits (taken limits store s) (drop (i + 1) ss)
taken_on limits ss i s store h here =
    let one : i + 1 ≡ suc i = omega arith in
    ap (taken_all limits (Ok store)) (drop-cons ss i s h) ∙ ap (λ x. taken_all limits (taken limits store x) (drop (suc i) ss)) (sym here)
    ∙ ap (λ k. taken_all limits (taken limits store s) (drop k ss)) (sym one)

-- a series that is refused refuses all
pub refused_by : (limits : LabelLimits) (ss : WriteRequest) (i : ℕ) (s : TimeSeries) (store : Store) (v : Verdict) (all : Result Store Verdict) → i < length ss → s ≡ get_or ss i s
    → all ≡ taken_all limits (Ok store) (drop i ss) → taken limits store s ≡ Err v → all ≡ Err v
refused_by limits ss i s store v all h here e bad =
    e ∙ taken_on limits ss i s store h here ∙ ap (λ r. taken_all limits r (drop (i + 1) ss)) bad ∙ taken_all-err limits v (drop (i + 1) ss)

-- and one that is taken leaves the others
pub taken_at : (limits : LabelLimits) (ss : WriteRequest) (i : ℕ) (s : TimeSeries) (store next : Store) (all : Result Store Verdict) → i < length ss → s ≡ get_or ss i s
    → all ≡ taken_all limits (Ok store) (drop i ss) → taken limits store s ≡ Ok next → all ≡ taken_all limits (Ok next) (drop (i + 1) ss)
taken_at limits ss i s store next all h here e good = e ∙ taken_on limits ss i s store h here ∙ ap (λ r. taken_all limits r (drop (i + 1) ss)) good
