use Rattle.std.proofs.Common.{Ok, inl, inr, refl, sym, ap, ◌∙◌}
use Rattle.rw_wal_tail.proofs.TakingLemmas.{takes_none, takes_more, takes_to_end, takes_to_fault, tells_fault, left_first, runs_out, ran_out, at_err}
use Rattle.rw_wal_tail.proofs.taker.take_all.Goals as goal

pub entries-init : goal.entries-init
entries-init g c = record { some = takes_none c.args.tail.now (g.T.Taker.taken c.args.taker.now); left = inl (refl, refl); fixed = refl }

pub entries-preserved : goal.entries-preserved
entries-preserved g c = record {
  some = takes_more _ _ _ _ _ _ _ _ c.entries.invariant.some (c.in-Ok-Some.is ∙ ap Ok c.in-Ok-Some.field-0-is) c.next_entry.ensures.takes c.next_entry.ensures.pieces c.in_ok-take-in-Ok-Some.ensures.taken;
  left = inr (left_first _ _ _ _ _ c.entries.invariant.left (c.in-Ok-Some.is ∙ ap Ok c.in-Ok-Some.field-0-is) c.next_entry.ensures.answer);
  fixed = c.in_ok-take-in-Ok-Some.ensures.fixed ∙ c.entries.invariant.fixed;
}

pub returns-in-Ok-None-clause-all : goal.returns-in-Ok-None-clause-all
returns-in-Ok-None-clause-all g c = takes_to_end _ _ _ _ _ _ c.entries.invariant.some (c.in-Ok-None.is ∙ ap Ok c.in-Ok-None.field-0-is) c.next_entry.ensures.takes

pub returns-in-Err-clause-all : goal.returns-in-Err-clause-all
returns-in-Err-clause-all g c = takes_to_fault _ _ _ _ _ _ _ c.entries.invariant.some c.in-Err.is (sym c.is_out_of_memory.ensures ∙ c.if-is_out_of_memory.false) c.next_entry.ensures.takes

pub returns-in-Err-clause-told : goal.returns-in-Err-clause-told
returns-in-Err-clause-told g c f same = tells_fault _ _ _ f _ _ c.in-Err.is (sym c.is_out_of_memory.ensures ∙ c.if-is_out_of_memory.false) c.next_entry.ensures.after refl same

pub returns-then-is_out_of_memory-clause-certain : goal.returns-then-is_out_of_memory-clause-certain
returns-then-is_out_of_memory-clause-certain g c =
    runs_out _ _ _ c.entries.invariant.left (c.next_entry.ensures.certain (ran_out _ _ c.in-Err.is (sym c.is_out_of_memory.ensures ∙ c.if-is_out_of_memory.true)))

pub returns-in_err-take-in-Ok-Some-clause-certain : goal.returns-in_err-take-in-Ok-Some-clause-certain
returns-in_err-take-in-Ok-Some-clause-certain g c = at_err _ _ (inl (left_first _ _ _ _ _ c.entries.invariant.left (c.in-Ok-Some.is ∙ ap Ok c.in-Ok-Some.field-0-is) c.next_entry.ensures.answer))
