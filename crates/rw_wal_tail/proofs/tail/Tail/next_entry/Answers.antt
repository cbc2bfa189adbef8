use Rattle.std.proofs.Common.{◌∙◌, ◌+◌, ◌∷◌, [], Some, ap, sym, refl, inl, inr, arith, length-append, subst, List, Option, map}
use Rattle.rw_wal_tail.specs.declared.reader.Step.TheVariants.{Failed, More}
use Rattle.rw_wal_tail.specs.inner.Steps.{IsOfLog, Ends, Ran}
use Rattle.rw_wal_format.specs.declared.skipped_type.SkippedType.{SkippedType}
use Rattle.rw_wal_format.specs.declared.tail_fault.TailFault.{TailFault}
use Rattle.rw_wal_tail.specs.Fed.{Fed, after_answer, told_of}
use Rattle.rw_wal_tail.specs.inner.Fed.{IsStuck}
use Rattle.rw_wal_tail.proofs.FedLaws.{follows_same, follows_given, gives_entry, gives_none, passes_none, gives_fault, passes_fault, asked, counted_none, counted_fault}
use Rattle.rw_wal_tail.proofs.KeptLaws.{tail_same, kept_taken, gives_ready, tail_lacks, not_of_log}
use Rattle.rw_wal_tail.proofs.TakingLemmas.{takes_next, same_pieces}
use Rattle.rw_wal_tail.proofs.tail.Tail.next_entry.Goals as goal

pub returns-then-self-eq-COUNT_END-clause-after : goal.returns-then-self-eq-COUNT_END-clause-after
unfolding after_answer
returns-then-self-eq-COUNT_END-clause-after c = c.self.view_is

pub returns-in-Err-clause-after : goal.returns-in-Err-clause-after
unfolding after_answer
returns-in-Err-clause-after c = c.self.view_is

pub invariant_of-self-in-Ok-More : goal.invariant_of-self-in-Ok-More
invariant_of-self-in-Ok-More c =
    let i = c.self.invariant in
    let f = follows_same _ c.self.inside.given c.self.inside.reader c.run.new.self i.follows c.in-Ok-More.ensures.same in
    rw c.push.ensures (record {
      follows = follows_given _ c.self.inside.given c.run.new.self c.take_entry-entry.new.self f c.take_entry-entry.result c.take_entry-entry.ensures.taken c.take_entry-entry.ensures.rest;
      counted = omega (arith, i.counted, length-append c.self.inside.given (c.take_entry-entry.result ∷ []));
      bound = omega (arith, i.bound, c.if-self-eq-COUNT_END.false);
      stuck = subst (IsStuck c.take_entry-entry.new.self) (sym c.in_default.is) tt;
      kept = kept_taken c.run.new.self c.take_entry-entry.new.self _ c.take_entry-entry.ensures.rest (c.in-Ok-More.ensures.kept _ i.kept);
    })

pub returns-in-Ok-Waits-clause-answer : goal.returns-in-Ok-Waits-clause-answer
returns-in-Ok-Waits-clause-answer c =
    let i = c.self.invariant in
    let f = follows_same _ c.self.inside.given c.self.inside.reader c.run.new.self i.follows c.in-Ok-Waits.ensures.same in
    let e : Ends c.run.new.self = (rw c.in-Ok-Waits.field-0-is at c.in-Ok-Waits.ensures.ran) in
    inr (sym (asked _ c.args.self.now c.self.inside.count c.self.inside.told c.self.inside.given c.self.inside.skipped c.self.view_is i.counted ∙ gives_none _ c.self.inside.given c.run.new.self f e))

pub returns-in-Ok-Waits-clause-after : goal.returns-in-Ok-Waits-clause-after
returns-in-Ok-Waits-clause-after c =
    let i = c.self.invariant in
    let f = follows_same _ c.self.inside.given c.self.inside.reader c.run.new.self i.follows c.in-Ok-Waits.ensures.same in
    let e : Ends c.run.new.self = (rw c.in-Ok-Waits.field-0-is at c.in-Ok-Waits.ensures.ran) in
    ap (λ (k : List SkippedType). record { pieces = map told_of c.self.inside.pieces; given = c.self.inside.count; skipped = k; fault = c.self.inside.told }) c.again-in-Ok-Waits.ensures
    ∙ counted_none _ c.args.self.now c.self.inside.count c.self.inside.told c.self.inside.skipped c.run.new.self.passed c.self.view_is (passes_none _ c.self.inside.given c.run.new.self f e)

pub returns-in-Ok-Failed-clause-answer : goal.returns-in-Ok-Failed-clause-answer
returns-in-Ok-Failed-clause-answer c =
    let i = c.self.invariant in
    let f = follows_same _ c.self.inside.given c.self.inside.reader c.run.new.self i.follows c.in-Ok-Failed.ensures.same in
    let e : Ran (Failed c.in-Ok-Failed.fault) c.run.new.self = (rw c.in-Ok-Failed.field-0-is at c.in-Ok-Failed.ensures.ran) in
    inr (sym (asked _ c.args.self.now c.self.inside.count c.self.inside.told c.self.inside.given c.self.inside.skipped c.self.view_is i.counted ∙ gives_fault _ c.self.inside.given c.run.new.self f c.in-Ok-Failed.fault e.0 e.1))

pub returns-in-Ok-Failed-clause-after : goal.returns-in-Ok-Failed-clause-after
returns-in-Ok-Failed-clause-after c =
    let i = c.self.invariant in
    let f = follows_same _ c.self.inside.given c.self.inside.reader c.run.new.self i.follows c.in-Ok-Failed.ensures.same in
    let e : Ran (Failed c.in-Ok-Failed.fault) c.run.new.self = (rw c.in-Ok-Failed.field-0-is at c.in-Ok-Failed.ensures.ran) in
    let l : IsOfLog (Some c.in-Ok-Failed.fault) = subst IsOfLog e.0 f.reader.fault in
    ap (λ (k : List SkippedType). record { pieces = map told_of c.self.inside.pieces; given = c.self.inside.count; skipped = k; fault = Some c.in-Ok-Failed.fault }) c.again-in-Ok-Failed.ensures
    ∙ counted_fault _ c.args.self.now c.self.inside.count c.self.inside.told c.self.inside.skipped c.run.new.self.passed c.in-Ok-Failed.fault l c.self.view_is (passes_fault _ c.self.inside.given c.run.new.self f c.in-Ok-Failed.fault e.0 e.1)

pub returns-else-self-eq-COUNT_END-clause-answer : goal.returns-else-self-eq-COUNT_END-clause-answer
returns-else-self-eq-COUNT_END-clause-answer c =
    let i = c.self.invariant in
    let f = follows_same _ c.self.inside.given c.self.inside.reader c.run.new.self i.follows c.in-Ok-More.ensures.same in
    inr (sym (asked _ c.args.self.now c.self.inside.count c.self.inside.told c.self.inside.given c.self.inside.skipped c.self.view_is i.counted ∙ gives_entry _ c.self.inside.given c.run.new.self f c.take_entry-entry.result c.take_entry-entry.new.self.ready.items c.take_entry-entry.ensures.taken))

pub returns-else-self-eq-COUNT_END-clause-after : goal.returns-else-self-eq-COUNT_END-clause-after
unfolding after_answer
returns-else-self-eq-COUNT_END-clause-after c = ap (λ (t : Fed). record t { given = t.given + 1 }) c.self.view_is

pub returns-in-Some-clause-answer : goal.returns-in-Some-clause-answer
returns-in-Some-clause-answer c =
    let i = c.self.invariant in
    let e : IsStuck c.self.inside.reader (Some c.in-Some.fault) = subst (IsStuck c.self.inside.reader) c.in-Some.is i.stuck in
    inr (sym (asked _ c.args.self.now c.self.inside.count c.self.inside.told c.self.inside.given c.self.inside.skipped c.self.view_is i.counted ∙ gives_fault _ c.self.inside.given c.self.inside.reader i.follows c.in-Some.fault e.0 e.1))

pub returns-in-Some-clause-after : goal.returns-in-Some-clause-after
returns-in-Some-clause-after c =
    let i = c.self.invariant in
    let e : IsStuck c.self.inside.reader (Some c.in-Some.fault) = subst (IsStuck c.self.inside.reader) c.in-Some.is i.stuck in
    let l : IsOfLog (Some c.in-Some.fault) = subst IsOfLog e.0 i.follows.reader.fault in
    ap (λ (k : List SkippedType). record { pieces = map told_of c.self.inside.pieces; given = c.self.inside.count; skipped = k; fault = c.self.inside.told }) c.again.ensures
    ∙ ap (λ (a : Option TailFault). record { pieces = map told_of c.self.inside.pieces; given = c.self.inside.count; skipped = c.self.inside.reader.passed; fault = a }) c.in-Some.is
    ∙ counted_fault _ c.args.self.now c.self.inside.count c.self.inside.told c.self.inside.skipped c.self.inside.reader.passed c.in-Some.fault l c.self.view_is (passes_fault _ c.self.inside.given c.self.inside.reader i.follows c.in-Some.fault e.0 e.1)

pub returns-in-Err-clause-certain : goal.returns-in-Err-clause-certain
returns-in-Err-clause-certain c e =
    let i = c.self.invariant in
    let f = follows_same _ c.self.inside.given c.self.inside.reader c.run.new.self i.follows c.in-Err.ensures.same in
    tail_lacks _ c.args.self.now c.self.inside.count c.self.inside.told c.self.inside.given c.self.inside.skipped c.run.new.self c.self.view_is i.counted f (c.in-Err.ensures.certain _ i.kept)

pub returns-then-self-eq-COUNT_END-clause-certain : goal.returns-then-self-eq-COUNT_END-clause-certain
returns-then-self-eq-COUNT_END-clause-certain c e =
    let i = c.self.invariant in
    let f = follows_same _ c.self.inside.given c.self.inside.reader c.run.new.self i.follows c.in-Ok-More.ensures.same in
    let r : Ran More c.run.new.self = (rw c.in-Ok-More.field-0-is at c.in-Ok-More.ensures.ran) in
    tail_lacks _ c.args.self.now c.self.inside.count c.self.inside.told c.self.inside.given c.self.inside.skipped c.run.new.self c.self.view_is i.counted f (inl (gives_ready c.run.new.self r))

pub returns-in-Ok-Failed-clause-certain : goal.returns-in-Ok-Failed-clause-certain
returns-in-Ok-Failed-clause-certain c e =
    let i = c.self.invariant in
    let f = follows_same _ c.self.inside.given c.self.inside.reader c.run.new.self i.follows c.in-Ok-Failed.ensures.same in
    let x : Ran (Failed c.in-Ok-Failed.fault) c.run.new.self = (rw c.in-Ok-Failed.field-0-is at c.in-Ok-Failed.ensures.ran) in
    absurd (not_of_log c.in-Ok-Failed.fault (subst IsOfLog x.0 f.reader.fault) e)

pub returns-in-Some-clause-certain : goal.returns-in-Some-clause-certain
returns-in-Some-clause-certain c e =
    let i = c.self.invariant in
    let x : IsStuck c.self.inside.reader (Some c.in-Some.fault) = subst (IsStuck c.self.inside.reader) c.in-Some.is i.stuck in
    absurd (not_of_log c.in-Some.fault (subst IsOfLog x.0 i.follows.reader.fault) e)

pub invariant_of-self-in-Err : goal.invariant_of-self-in-Err
invariant_of-self-in-Err c =
    tail_same c.self.inside.reader c.run.new.self _ c.self.inside.given c.self.inside.count c.self.inside.told c.self.inside.told c.self.invariant c.in-Err.ensures.same (c.in-Err.ensures.kept _ c.self.invariant.kept)
    (subst (IsStuck c.run.new.self) (sym c.in_default.is) tt)

pub invariant_of-self-in-Ok-Waits : goal.invariant_of-self-in-Ok-Waits
invariant_of-self-in-Ok-Waits c =
    tail_same c.self.inside.reader c.run.new.self _ c.self.inside.given c.self.inside.count c.self.inside.told c.self.inside.told c.self.invariant c.in-Ok-Waits.ensures.same (c.in-Ok-Waits.ensures.kept _ c.self.invariant.kept)
    (subst (IsStuck c.run.new.self) (sym c.in_default.is) tt)

pub invariant_of-self-then-self-eq-COUNT_END : goal.invariant_of-self-then-self-eq-COUNT_END
invariant_of-self-then-self-eq-COUNT_END c =
    tail_same c.self.inside.reader c.run.new.self _ c.self.inside.given c.self.inside.count c.self.inside.told c.self.inside.told c.self.invariant c.in-Ok-More.ensures.same (c.in-Ok-More.ensures.kept _ c.self.invariant.kept)
    (subst (IsStuck c.run.new.self) (sym c.in_default.is) tt)

pub invariant_of-self-in-Ok-Failed : goal.invariant_of-self-in-Ok-Failed
invariant_of-self-in-Ok-Failed c =
    let e : Ran (Failed c.in-Ok-Failed.fault) c.run.new.self = (rw c.in-Ok-Failed.field-0-is at c.in-Ok-Failed.ensures.ran) in
    tail_same c.self.inside.reader c.run.new.self _ c.self.inside.given c.self.inside.count c.self.inside.told (Some c.in-Ok-Failed.fault) c.self.invariant c.in-Ok-Failed.ensures.same (c.in-Ok-Failed.ensures.kept _ c.self.invariant.kept) e

pub returns-in-Err-clause-takes : goal.returns-in-Err-clause-takes
returns-in-Err-clause-takes c taken h = takes_next _ _ taken _ h (inl refl) (returns-in-Err-clause-after c)

pub returns-in-Err-clause-pieces : goal.returns-in-Err-clause-pieces
returns-in-Err-clause-pieces c = same_pieces _ _ _ (returns-in-Err-clause-after c)

pub returns-then-self-eq-COUNT_END-clause-takes : goal.returns-then-self-eq-COUNT_END-clause-takes
returns-then-self-eq-COUNT_END-clause-takes c taken h = takes_next _ _ taken _ h (inl refl) (returns-then-self-eq-COUNT_END-clause-after c)

pub returns-then-self-eq-COUNT_END-clause-pieces : goal.returns-then-self-eq-COUNT_END-clause-pieces
returns-then-self-eq-COUNT_END-clause-pieces c = same_pieces _ _ _ (returns-then-self-eq-COUNT_END-clause-after c)

pub returns-in-Some-clause-takes : goal.returns-in-Some-clause-takes
returns-in-Some-clause-takes c taken h = takes_next _ _ taken _ h (returns-in-Some-clause-answer c) (returns-in-Some-clause-after c)

pub returns-in-Some-clause-pieces : goal.returns-in-Some-clause-pieces
returns-in-Some-clause-pieces c = same_pieces _ _ _ (returns-in-Some-clause-after c)

pub returns-in-Ok-Waits-clause-takes : goal.returns-in-Ok-Waits-clause-takes
returns-in-Ok-Waits-clause-takes c taken h = takes_next _ _ taken _ h (returns-in-Ok-Waits-clause-answer c) (returns-in-Ok-Waits-clause-after c)

pub returns-in-Ok-Waits-clause-pieces : goal.returns-in-Ok-Waits-clause-pieces
returns-in-Ok-Waits-clause-pieces c = same_pieces _ _ _ (returns-in-Ok-Waits-clause-after c)

pub returns-in-Ok-Failed-clause-takes : goal.returns-in-Ok-Failed-clause-takes
returns-in-Ok-Failed-clause-takes c taken h = takes_next _ _ taken _ h (returns-in-Ok-Failed-clause-answer c) (returns-in-Ok-Failed-clause-after c)

pub returns-in-Ok-Failed-clause-pieces : goal.returns-in-Ok-Failed-clause-pieces
returns-in-Ok-Failed-clause-pieces c = same_pieces _ _ _ (returns-in-Ok-Failed-clause-after c)

pub returns-else-self-eq-COUNT_END-clause-takes : goal.returns-else-self-eq-COUNT_END-clause-takes
returns-else-self-eq-COUNT_END-clause-takes c taken h = takes_next _ _ taken _ h (returns-else-self-eq-COUNT_END-clause-answer c) (returns-else-self-eq-COUNT_END-clause-after c)

pub returns-else-self-eq-COUNT_END-clause-pieces : goal.returns-else-self-eq-COUNT_END-clause-pieces
returns-else-self-eq-COUNT_END-clause-pieces c = same_pieces _ _ _ (returns-else-self-eq-COUNT_END-clause-after c)
