-- How a run of a journal's calls goes on.
use Rattle.std.proofs.Common.{inl, inr, ⊎_elim, ℕ, arith}
use Rattle.rw_kept_log.specs.Journal.{Segments, Elapses, LeavesOnly}

module _ {D : Type 0} (moment : D → ℕ) (left_since : D → ℕ → Segments → Type 0) where
  -- before the first call
  pub started : (old : D) (P : Segments → Type 0) → ((c : Segments) → left_since old (moment old) c → P c) → LeavesOnly moment left_since old old P
  started old P here = record { later = omega arith; each = here; before = λ t c le left. inl left }

  -- one call more, after which a crash leaves what has P
  pub goes_on : (old mid new : D) (P may_leave : Segments → Type 0) → LeavesOnly moment left_since old mid P → Elapses (moment mid) (moment new) (left_since mid) (left_since new) may_leave
      → ((c : Segments) → may_leave c → P c) → LeavesOnly moment left_since old new P
  goes_on old mid new P may_leave so_far time here = record {
    later = omega (arith, so_far.later, time.later);
    each = λ c left. ⊎_elim (so_far.each c) (here c) (time.nothing_else (moment old) c so_far.later left);
    before = λ t c le left. ⊎_elim (so_far.before t c le) (λ now. inr (here c now)) (time.nothing_else t c (omega (arith, le, so_far.later)) left);
  }

  -- what follows from P holds as well
  pub weaker : (old new : D) (P Q : Segments → Type 0) → LeavesOnly moment left_since old new P → ((c : Segments) → P c → Q c) → LeavesOnly moment left_since old new Q
  weaker old new P Q all so = record {
    later = all.later;
    each = λ c left. so c (all.each c left);
    before = λ t c le left. ⊎_elim (λ past. inl past) (λ here. inr (so c here)) (all.before t c le left);
  }
