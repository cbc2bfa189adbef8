-- What a reader answers, and what an answer says about it.
use Rattle.std.proofs.Common.{◌≡◌, ◌≢◌, ℕ, zero, suc, ◌<◌, Bool, true, false, cond, List, [], ◌∷◌, length, Option, None, Some, Ok, Err, refl, arith}
use Rattle.std.specs.Prelude.{slice_get}
use Rattle.rw_types.specs.declared.entry.Entry.{Entry}
use Rattle.rw_wal_format.specs.declared.tail_fault.TailFault.{TailFault}
use Rattle.rw_wal_format.specs.declared.tail_fault.TailFault.TheVariants.{OutOfMemory}
use Rattle.rw_wal_tail.specs.Fed.{Fed, answer_at_end, after_answer}

pub end_none : (o : Option TailFault) (e : Entry) → Ok (Some e) ≡ answer_at_end o → ⊥
end_none None e h = cc
end_none (Some f) e h = cc

pub next_is : (b : Bool) (o : Option Entry) (f : Option TailFault) (e : Entry) → Ok (Some e) ≡ cond b (Ok o) (answer_at_end f) → o ≡ Some e
next_is true o f e h = cc
next_is false o f e h = absurd (end_none f e h)

pub end_is : (b : Bool) (o : Option Entry) (f : Option TailFault) → Ok None ≡ cond b (Ok o) (answer_at_end f) → (b ≡ true → o ≢ None) → (b ≡ false) × (f ≡ None)
end_is true o f h some = absurd (some refl cc)
end_is false o None h some = (refl, refl)
end_is false o (Some f) h some = absurd (cc)

pub fault_is : (b : Bool) (o : Option Entry) (f : Option TailFault) (g : TailFault) → Err g ≡ cond b (Ok o) (answer_at_end f) → (b ≡ false) × (f ≡ Some g)
fault_is true o f g h = absurd (cc)
fault_is false o None g h = absurd (cc)
fault_is false o (Some f) g h = (refl, cc)

pub has_some : {X : Type 0} (xs : List X) (n : ℕ) → n < length xs → slice_get xs n ≢ None
has_some [] n lt = λ e. omega arith
has_some (x ∷ xs) zero lt = λ e. cc
has_some (x ∷ xs) (suc n) lt = has_some xs n (omega arith)

pub answered_same : (t : Fed) (f : TailFault) → ((after_answer t (Err f)).pieces ≡ t.pieces) × ((after_answer t (Err f)).given ≡ t.given)
unfolding after_answer
answered_same t OutOfMemory = (refl, refl)
answered_same t f = (refl, refl)
