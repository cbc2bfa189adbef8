-- A device that is given one text after another.
use Rattle.std.proofs.Common.{◌≡◌, ℕ, ◌+◌, ◌≤◌, List, [], ◌++◌, length, take, Option, Result, Ok, Err, Bool, true, false, OnOk, OnErr, IsOk, IsErr, arith, length-append, inl, inr}
use Rattle.std.proofs.lemmas.Bool.{cases_lt}
use Rattle.std.proofs.lemmas.List.{take-append-le}
use Rattle.std.proofs.Math.Seq.{take-append-add}
use Rattle.std.proofs.lemmas.Result.{MatchResult-from_err, MatchResult-at_ok, MatchResult-at_err}
use Rattle.std.specs.Io.KnownBytes.{Appends}
use Rattle.std.proofs.KnownBytes.{Appends-trans, Appends-nil}
use Rattle.rw_wal_write.specs.Sinks.{TakesAll, TakesPart, Takes}

no_ok : {E : Type 0} (e : E) → IsOk {T = Unit {0}} (Err e) → ⊥
no_ok e h = cc

module _ {W : Type 0} (contents : W → Option (List ℕ)) (has_failed : W → Bool) (room : W → ℕ) where
  -- what a call that writes a text says
  pub takes_text : {E : Type 0} (old new : W) (text : List ℕ) (r : Result (Unit {0}) E)
      → OnOk r (Appends (contents old) (contents new) text)
      → OnErr r ((n : ℕ) × (n ≤ length text) × Appends (contents old) (contents new) (take n text))
      → OnErr r (has_failed new ≡ true)
      → OnOk r (has_failed old ≡ false → has_failed new ≡ false)
      → (has_failed old ≡ false → length text ≤ room old → IsOk r)
      → OnOk r (room old ≤ room new + length text)
      → Takes contents has_failed room old new text r
  takes_text old new text (Ok u) ok part failed sound fits left = record { appended = ok; sound = sound; room_left = left }
  takes_text old new text (Err e) ok part failed sound fits left = record {
    taken = part.0;
    within = part.1;
    appended = part.2;
    failed = failed;
    lacked = λ h. elim (cases_lt (room old) (length text)) [ inl l ↦ l | inr g ↦ absurd (no_ok e (fits h g)) ];
  }

  -- no byte at all
  pub takes_none : (a : W) → TakesAll contents has_failed room a a []
  takes_none a = record { appended = Appends-nil (contents a); sound = λ h. h; room_left = omega arith }

  -- one text, and then another
  pub takes_both : (a b c : W) (x y : List ℕ) → TakesAll contents has_failed room a b x → TakesAll contents has_failed room b c y → TakesAll contents has_failed room a c (x ++ y)
  takes_both a b c x y p q = record {
    appended = Appends-trans (contents a) (contents b) (contents c) x y p.appended q.appended;
    sound = λ h. q.sound (p.sound h);
    room_left = omega (arith, p.room_left, q.room_left, length-append x y);
  }

  -- one text, and then a prefix of another
  pub takes_part_after : (a b c : W) (x y : List ℕ) → TakesAll contents has_failed room a b x → TakesPart contents has_failed room b c y → TakesPart contents has_failed room a c (x ++ y)
  takes_part_after a b c x y p q = record {
    taken = length x + q.taken;
    within = omega (arith, q.within, length-append x y);
    appended = rw (take-append-add x y q.taken) (Appends-trans (contents a) (contents b) (contents c) x (take q.taken y) p.appended q.appended);
    failed = q.failed;
    lacked = λ h. let l = q.lacked (p.sound h) in omega (arith, l, p.room_left, length-append x y);
  }

  -- a prefix of a text is one of all that would have followed
  pub takes_part_before : (a b : W) (x y : List ℕ) → TakesPart contents has_failed room a b x → TakesPart contents has_failed room a b (x ++ y)
  takes_part_before a b x y p = record {
    taken = p.taken;
    within = omega (arith, p.within, length-append x y);
    appended = let w = p.within in rw (take-append-le p.taken x y w) p.appended;
    failed = p.failed;
    lacked = λ h. let l = p.lacked h in omega (arith, l, length-append x y);
  }

  -- one text, and then a call for another
  pub takes_more : {T E : Type 0} (a b c : W) (x y : List ℕ) (r : Result T E) → TakesAll contents has_failed room a b x → Takes contents has_failed room b c y r
      → Takes contents has_failed room a c (x ++ y) r
  takes_more a b c x y (Ok u) p q = takes_both a b c x y p q
  takes_more a b c x y (Err e) p q = takes_part_after a b c x y p q

  pub all_at_ok : {T E : Type 0} (a b : W) (x : List ℕ) (r : Result T E) (v : T) → r ≡ Ok v → Takes contents has_failed room a b x r → TakesAll contents has_failed room a b x
  all_at_ok a b x r v e t = MatchResult-at_ok (λ _. TakesAll contents has_failed room a b x) (λ _. TakesPart contents has_failed room a b x) v e t

  pub part_at_err : {T E : Type 0} (a b : W) (x : List ℕ) (r : Result T E) (f : E) → r ≡ Err f → Takes contents has_failed room a b x r → TakesPart contents has_failed room a b x
  part_at_err a b x r f e t = MatchResult-at_err (λ _. TakesAll contents has_failed room a b x) (λ _. TakesPart contents has_failed room a b x) f e t

  -- what a call answers that gives the failure on
  pub takes_failure : {T E : Type 0} (a b : W) (x : List ℕ) (r : Result T E) → IsErr r → TakesPart contents has_failed room a b x → Takes contents has_failed room a b x r
  takes_failure a b x r e p = MatchResult-from_err r _ _ e (λ _. p)
