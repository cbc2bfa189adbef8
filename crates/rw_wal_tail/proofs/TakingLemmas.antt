-- What a client has taken, by what a reader answers.
use Rattle.std.proofs.Common.{◌≡◌, ℕ, ◌+◌, ◌<◌, ◌≤◌, ◌^◌, true, false, List, [], ◌∷◌, ◌++◌, length, Option, None, Some, Result, Ok, Err, ◌⊎◌, inl, inr, refl, sym, ap, ◌∙◌, subst, append_assoc, append-nil, length-append, arith}
use Rattle.std.proofs.lemmas.Bool.Decides.{nat_tests}
use Rattle.std.proofs.lemmas.List.{nil_from_length}
use Rattle.std.proofs.lemmas.Option.{slice_get_within}
use Rattle.std.specs.Prelude.{slice_get, nat_lt, OnErr}
use Rattle.std.specs.declared.alloc.AllocError.{AllocError}
use Rattle.rw_types.specs.declared.entry.Entry.{Entry}
use Rattle.rw_wal_format.specs.Pieces.{entries, fault, skipped, reading, page_size}
use Rattle.rw_wal_format.specs.Laws.{Extends}
use Rattle.rw_wal_format.specs.declared.tail_fault.TailFault.{TailFault}
use Rattle.rw_wal_format.specs.declared.tail_fault.TailFault.TheVariants.{OutOfMemory}
use Rattle.rw_wal_tail.specs.Fed.{Fed, next_of, after_answer, is_out_of_memory, size_of}
use Rattle.rw_wal_tail.specs.Taking.{HasTaken, HasTakenAll, TakesNext, TakesAll}
use Rattle.rw_wal_tail.proofs.shared.AnswerLemmas.{next_is, end_is, fault_is, has_some, answered_same}

-- what a reader may answer
abbrev pub Said : Type 0
Said = Result (Option Entry) TailFault

abbrev pub Answers : Fed → Said → Type 0
Answers t said = (said ≡ Err OutOfMemory) ⊎ (said ≡ next_of t.pieces t.given)

-- the element after a front
next_rest : {X : Type 0} (front rest : List X) (x : X) → slice_get (front ++ rest) (length front) ≡ Some x → (later : List X) × (rest ≡ x ∷ later)
next_rest [] [] x e = absurd cc
next_rest [] (y ∷ ys) x e = let same : y ≡ x = cc in (ys, ap (λ z. z ∷ ys) same)
next_rest (f ∷ fs) rest x e = next_rest fs rest x e

all_taken : (t : Fed) (taken : List Entry) → HasTaken t taken → nat_lt t.given (length (entries t.pieces)) ≡ false → taken ≡ entries t.pieces
all_taken t taken h e =
    let le : length (entries t.pieces) ≤ t.given = grind (arith, nat_tests) in
    let c = h.count in
    let len = ap length h.begins ∙ length-append taken h.rest in
    let none : h.rest ≡ [] = nil_from_length h.rest (omega arith) in
    sym (append-nil taken) ∙ ap (λ r. taken ++ r) (sym none) ∙ sym h.begins

same_taken : (t after : Fed) (taken : List Entry) → after.pieces ≡ t.pieces → after.given ≡ t.given → HasTaken t taken → HasTaken after taken
same_taken t after taken p g h = record { count = g ∙ h.count; rest = h.rest; begins = ap entries p ∙ h.begins }

took_entry : (t after : Fed) (taken : List Entry) (e : Entry) → HasTaken t taken → Ok (Some e) ≡ next_of t.pieces t.given → after ≡ after_answer t (Ok (Some e)) → HasTaken after (taken ++ e ∷ [])
unfolding next_of after_answer
took_entry t after taken e h r n =
    let at : slice_get (entries t.pieces) t.given ≡ Some e = next_is (nat_lt t.given (length (entries t.pieces))) (slice_get (entries t.pieces) t.given) (fault t.pieces) e r in
    let there : slice_get (taken ++ h.rest) (length taken) ≡ Some e = ap (λ k. slice_get (taken ++ h.rest) k) (sym h.count) ∙ ap (λ l. slice_get l t.given) (sym h.begins) ∙ at in
    let more = next_rest taken h.rest e there in
    record {
      count = ap (λ (x : Fed). x.given) n ∙ ap (λ k. k + 1) h.count ∙ sym (length-append taken (e ∷ []));
      rest = more.0;
      begins = ap (λ (x : Fed). entries x.pieces) n ∙ h.begins ∙ ap (λ r. taken ++ r) more.1 ∙ sym (append_assoc taken (e ∷ []) more.0);
    }

took_none : (t after : Fed) (taken : List Entry) → HasTaken t taken → Ok None ≡ next_of t.pieces t.given → after ≡ after_answer t (Ok None) → HasTakenAll after taken None
unfolding next_of after_answer
took_none t after taken h r n =
    let e = end_is (nat_lt t.given (length (entries t.pieces))) (slice_get (entries t.pieces) t.given) (fault t.pieces) r (λ l. has_some (entries t.pieces) t.given (grind (arith, nat_tests))) in
    rw n record {
      taken_all = record { count = h.count; rest = h.rest; begins = h.begins };
      read = record { all = all_taken t taken h e.0; fault_is = e.1 };
      passed = refl;
    }

-- what was passed over is counted at a fault
passes_fault : (t : Fed) (f : TailFault) → is_out_of_memory f ≡ false → (after_answer t (Err f)).skipped ≡ skipped t.pieces
unfolding after_answer
passes_fault t OutOfMemory e = absurd cc
passes_fault t f e = refl

took_fault : (t after : Fed) (taken : List Entry) (f : TailFault) → HasTaken t taken → Answers t (Err f) → after ≡ after_answer t (Err f) → is_out_of_memory f ≡ false → HasTakenAll after taken (Some f)
unfolding next_of
took_fault t after taken f h (inl r) n plain = let same : f ≡ OutOfMemory = cc in let it_is : is_out_of_memory f ≡ true = ap is_out_of_memory same in absurd cc
took_fault t after taken f h (inr r) n plain =
    let e = fault_is (nat_lt t.given (length (entries t.pieces))) (slice_get (entries t.pieces) t.given) (fault t.pieces) f r in
    let k = answered_same t f in
    let p : after.pieces ≡ t.pieces = ap (λ (x : Fed). x.pieces) n ∙ k.0 in
    record {
      taken_all = same_taken t after taken p (ap (λ (x : Fed). x.given) n ∙ k.1) h;
      read = record { all = all_taken t taken h e.0 ∙ ap entries (sym p); fault_is = ap fault p ∙ e.1 };
      passed = ap (λ (x : Fed). x.skipped) n ∙ passes_fault t f plain ∙ ap skipped (sym p);
    }

-- what was taken after any answer
pub takes_next : (t after : Fed) (taken : List Entry) (said : Said) → HasTaken t taken → Answers t said → after ≡ after_answer t said → TakesNext taken said after
takes_next t after taken (Ok (Some e)) h (inl r) n = absurd cc
takes_next t after taken (Ok (Some e)) h (inr r) n = took_entry t after taken e h r n
takes_next t after taken (Ok None) h (inl r) n = absurd cc
takes_next t after taken (Ok None) h (inr r) n = took_none t after taken h r n
takes_next t after taken (Err f) h a n =
    let k = answered_same t f in (
      same_taken t after taken (ap (λ (x : Fed). x.pieces) n ∙ k.0) (ap (λ (x : Fed). x.given) n ∙ k.1) h,
      λ plain. took_fault t after taken f h a n plain,
    )

-- no answer changes the pieces
pub same_pieces : (t after : Fed) (said : Said) → after ≡ after_answer t said → after.pieces ≡ t.pieces
unfolding after_answer
same_pieces t after (Ok (Some e)) n = ap (λ (x : Fed). x.pieces) n
same_pieces t after (Ok None) n = ap (λ (x : Fed). x.pieces) n
same_pieces t after (Err f) n = ap (λ (x : Fed). x.pieces) n ∙ (answered_same t f).0

-- more of the log has come
pub stays_taken : (t after : Fed) (taken : List Entry) → after.given ≡ t.given → Extends (reading page_size t.pieces) (reading page_size after.pieces) → HasTaken t taken → HasTaken after taken
stays_taken t after taken g x h = record {
  count = g ∙ h.count;
  rest = h.rest ++ x.more;
  begins = x.entries ∙ ap (λ l. l ++ x.more) h.begins ∙ append_assoc taken h.rest x.more;
}

-- ---- all entries that a reader has left, one after the other

-- some of them were taken, after those that were taken before
pub record TakesSome (t at : Fed) (before now : List Entry) : Type 0 where
  pub more : List Entry
  pub grows : now ≡ before ++ more
  pub has : (taken : List Entry) → HasTaken t taken → HasTaken at (taken ++ more)
  pub fed : at.pieces ≡ t.pieces

pub takes_none : (t : Fed) (before : List Entry) → TakesSome t t before before
takes_none t before = record {
  more = [];
  grows = sym (append-nil before);
  has = λ taken h. subst (HasTaken t) (sym (append-nil taken)) h;
  fed = refl;
}

-- what the reader says next, of whatever was taken from it
abbrev pub Says : Fed → Fed → Said → Type 0
Says at new said = (taken : List Entry) → HasTaken at taken → TakesNext taken said new

pub takes_more : (t at new : Fed) (before now after : List Entry) (e : Entry) (said : Said) → TakesSome t at before now → said ≡ Ok (Some e) → Says at new said → new.pieces ≡ at.pieces → after ≡ now ++ e ∷ [] → TakesSome t new before after
takes_more t at new before now after e said h is says fed up = record {
  more = h.more ++ e ∷ [];
  grows = up ∙ ap (λ l. l ++ e ∷ []) h.grows ∙ append_assoc before h.more (e ∷ []);
  has = λ taken g. subst (HasTaken new) (append_assoc taken h.more (e ∷ [])) (subst (λ (s : Said). TakesNext (taken ++ h.more) s new) is (says (taken ++ h.more) (h.has taken g)));
  fed = fed ∙ h.fed;
}

pub takes_to_end : (t at new : Fed) (before now : List Entry) (said : Said) → TakesSome t at before now → said ≡ Ok None → Says at new said → TakesAll t new before now None
takes_to_end t at new before now said h is says = record {
  more = h.more;
  grows = h.grows;
  all = λ taken g. subst (λ (s : Said). TakesNext (taken ++ h.more) s new) is (says (taken ++ h.more) (h.has taken g));
}

pub takes_to_fault : (t at new : Fed) (before now : List Entry) (f : TailFault) (said : Said) → TakesSome t at before now → said ≡ Err f → is_out_of_memory f ≡ false → Says at new said → TakesAll t new before now (Some f)
takes_to_fault t at new before now f said h is plain says = record {
  more = h.more;
  grows = h.grows;
  all = λ taken g. (subst (λ (s : Said). TakesNext (taken ++ h.more) s new) is (says (taken ++ h.more) (h.has taken g))).1 plain;
}

-- a fault of the log that was answered is the one that is seen
told_after : (t : Fed) (f : TailFault) → is_out_of_memory f ≡ false → (after_answer t (Err f)).fault ≡ Some f
unfolding after_answer
told_after t OutOfMemory plain = absurd cc
told_after t f plain = refl

pub tells_fault : (t new : Fed) (f g : TailFault) (said : Said) (result : Result (Option TailFault) AllocError) → said ≡ Err f → is_out_of_memory f ≡ false → new ≡ after_answer t said → result ≡ Ok (Some f) → result ≡ Ok (Some g) → new.fault ≡ Some g
tells_fault t new f g said result is plain n now same =
    let it : f ≡ g = cc in
    ap (λ (x : Fed). x.fault) (n ∙ ap (after_answer t) is) ∙ told_after t f plain ∙ ap Some it

-- an entry is left, or a count has come to its end
abbrev pub MayRunOut : Fed → Type 0
MayRunOut t = (t.given < length (entries t.pieces)) ⊎ (2 ^ 60 ≤ size_of t.pieces)

-- nothing was taken yet, or an entry was left
abbrev pub IsAsBefore : Fed → Fed → ℕ → Type 0
IsAsBefore t at n = ((n ≡ 0) × (at ≡ t)) ⊎ (t.given < length (entries t.pieces))

-- an entry that is returned was left
entry_left : (t : Fed) (e : Entry) (said : Said) → said ≡ Ok (Some e) → Answers t said → t.given < length (entries t.pieces)
unfolding next_of
entry_left t e said is (inl r) = absurd cc
entry_left t e said is (inr r) = slice_get_within (entries t.pieces) t.given e (next_is (nat_lt t.given (length (entries t.pieces))) (slice_get (entries t.pieces) t.given) (fault t.pieces) e (sym is ∙ r))

pub left_first : (t at : Fed) (n : ℕ) (e : Entry) (said : Said) → IsAsBefore t at n → said ≡ Ok (Some e) → Answers at said → t.given < length (entries t.pieces)
left_first t at n e said (inl h) is a = subst (λ (x : Fed). x.given < length (entries x.pieces)) h.1 (entry_left at e said is a)
left_first t at n e said (inr h) is a = h

pub runs_out : (t at : Fed) (n : ℕ) → IsAsBefore t at n → MayRunOut at → MayRunOut t
runs_out t at n (inl h) may = subst MayRunOut h.1 may
runs_out t at n (inr h) may = inl h

pub at_err : {A E : Type 0} (r : Result A E) (P : Type 0) → P → OnErr r P
at_err (Ok x) P p = tt
at_err (Err e) P p = p

pub ran_out : (f : TailFault) (said : Said) → said ≡ Err f → is_out_of_memory f ≡ true → said ≡ Err OutOfMemory
ran_out OutOfMemory said is out = is
ran_out f said is out = absurd cc
