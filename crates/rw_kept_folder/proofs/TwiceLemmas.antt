-- Two calls on the files, as one call of a journal.
use Rattle.std.proofs.Common.{◌⊎◌, inl, inr, ⊎_elim, ℕ, ◌≤◌, arith}
use Rattle.rw_kept_log.specs.Journal.{Segments, Elapses}

-- what a crash between the two calls may leave, one before or after both may leave too
pub elapses_twice : (before between now : ℕ) (past middle since : ℕ → Segments → Type 0) (may_leave_before may_leave_between may_leave : Segments → Type 0)
    → ((t : ℕ) (c : Segments) → t ≤ before → may_leave_before c → past t c) → Elapses before between past middle may_leave_between → Elapses between now middle since may_leave
    → ((c : Segments) → may_leave_between c → may_leave_before c ⊎ may_leave c) → Elapses before now past since may_leave
elapses_twice before between now past middle since may_leave_before may_leave_between may_leave counts first second known = record {
  later = omega (arith, first.later, second.later);
  nothing_else = λ t c le left. ⊎_elim
      (λ mid. ⊎_elim (λ was. inl was) (λ here. ⊎_elim (λ b. inl (counts t c le b)) (λ n. inr n) (known c here)) (first.nothing_else t c le mid))
      (λ new. inr new)
      (second.nothing_else t c (omega (arith, le, first.later)) left);
  keeps = λ t c le left. second.keeps t c (omega (arith, le, first.later)) (first.keeps t c le left);
}
