use Rattle.std.proofs.Common.{◌≡◌, ◌∙◌, Ok, Err, Some, None, take, length, sym, ap, subst}
use Rattle.rw_wal_tail.specs.Taking.{HasTaken}
use Rattle.rw_world.proofs.shared.ReadingLemmas.{took_as, front_more}
use Rattle.rw_world.proofs.log.drain.Goals as goal

pub returns-in-Ok-None-clause-ok : goal.returns-in-Ok-None-clause-ok
returns-in-Ok-None-clause-ok c =
    let d = subst (HasTaken c.entries.tail) (sym c.in_ok-reserve.ensures.items) c.entries.invariant.0 in
    took_as c.reserve.new.self.items c.next_entry.new.self c.next_entry.result (Ok None) (c.next_entry.ensures.takes _ d) (c.in-Ok-None.is ∙ ap Ok c.in-Ok-None.field-0-is)

pub returns-in-Ok-None-clause-pieces : goal.returns-in-Ok-None-clause-pieces
returns-in-Ok-None-clause-pieces c = c.next_entry.ensures.pieces ∙ c.entries.invariant.1

pub returns-then-is_out_of_memory-clause-pieces : goal.returns-then-is_out_of_memory-clause-pieces
returns-then-is_out_of_memory-clause-pieces c = c.next_entry.ensures.pieces ∙ c.entries.invariant.1

pub returns-in-Err-clause-ok : goal.returns-in-Err-clause-ok
returns-in-Err-clause-ok c =
    let d = subst (HasTaken c.entries.tail) (sym c.in_ok-reserve.ensures.items) c.entries.invariant.0 in
    (took_as c.reserve.new.self.items c.next_entry.new.self c.next_entry.result (Err c.in-Err.fault) (c.next_entry.ensures.takes _ d) c.in-Err.is).1 (sym c.is_out_of_memory.ensures ∙ c.if-is_out_of_memory.false)

pub returns-in-Err-clause-pieces : goal.returns-in-Err-clause-pieces
returns-in-Err-clause-pieces c = c.next_entry.ensures.pieces ∙ c.entries.invariant.1

pub entries-preserved : goal.entries-preserved
entries-preserved c =
    let d = subst (HasTaken c.entries.tail) (sym c.in_ok-reserve.ensures.items) c.entries.invariant.0 in
    let more = took_as c.reserve.new.self.items c.next_entry.new.self c.next_entry.result (Ok (Some c.in-Ok-Some.entry)) (c.next_entry.ensures.takes _ d) (c.in-Ok-Some.is ∙ ap Ok c.in-Ok-Some.field-0-is) in
    let front = c.args.entries.now.items in
    let begins : take (length front) c.reserve.new.self.items ≡ front = ap (take (length front)) c.in_ok-reserve.ensures.items ∙ c.entries.invariant.2 in
    rw c.push_reserved.ensures.items (more, c.next_entry.ensures.pieces ∙ c.entries.invariant.1, front_more front c.reserve.new.self.items c.in-Ok-Some.entry begins)
