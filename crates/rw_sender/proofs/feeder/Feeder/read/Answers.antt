use Rattle.std.proofs.Common.{◌∙◌, ◌++◌, Ok, take, sym, ap}
use Rattle.std.specs.Prelude.{drop}
use Rattle.rw_sender.specs.Feeders.{Sorting}
use Rattle.rw_sender.proofs.FeederLemmas.{took_entry, took_none, took_fault, read_of, read_refused, same_taken, read_next, next_seen, end_seen, read_all}
use Rattle.rw_sender.proofs.feeder.Feeder.read.Goals as goal

pub invariant_of-self : goal.invariant_of-self
invariant_of-self c =
    let i = c.self.invariant in
    let none = ap (λ (x : Sorting). x.hand) c.self.view_is ∙ c.requires in
    let took = took_entry (take c.self.inside.count c.self.inside.read ++ drop c.self.inside.count c.self.inside.read) c.next_entry.new.self c.next_entry.result c.in-Ok-Some.entry (c.next_entry.ensures.takes _ i.taken) (c.in-Ok-Some.is ∙ ap Ok c.in-Ok-Some.field-0-is) in
    read_next _ _ _ _ _ _ _ _ _ i none c.push.ensures took

pub returns-in-Ok-Some-clause-ok : goal.returns-in-Ok-Some-clause-ok
returns-in-Ok-Some-clause-ok c =
    let s = c.self.inside in
    let none = ap (λ (x : Sorting). x.hand) c.self.view_is ∙ c.requires in
    next_seen s.labels s.tail c.next_entry.new.self s.router s.part.names s.count s.read _ _ _ c.self.invariant none c.push.ensures c.next_entry.ensures.pieces c.self.view_is

pub invariant_of-self-in-Ok-None : goal.invariant_of-self-in-Ok-None
invariant_of-self-in-Ok-None c =
    let i = c.self.invariant in
    let took = took_none (take c.self.inside.count c.self.inside.read ++ drop c.self.inside.count c.self.inside.read) c.next_entry.new.self c.next_entry.result (c.next_entry.ensures.takes _ i.taken) (c.in-Ok-None.is ∙ ap Ok c.in-Ok-None.field-0-is) in
    same_taken _ _ _ _ _ _ _ _ i took.taken_all

pub returns-in-Ok-None-clause-ok : goal.returns-in-Ok-None-clause-ok
returns-in-Ok-None-clause-ok c =
    let s = c.self.inside in
    let none = ap (λ (x : Sorting). x.hand) c.self.view_is ∙ c.requires in
    let took = took_none (take c.self.inside.count c.self.inside.read ++ drop c.self.inside.count c.self.inside.read) c.next_entry.new.self c.next_entry.result (c.next_entry.ensures.takes _ c.self.invariant.taken) (c.in-Ok-None.is ∙ ap Ok c.in-Ok-None.field-0-is) in
    let pieces = c.next_entry.ensures.pieces in
    (end_seen s.router.cache.choice s.labels s.tail.pieces c.next_entry.new.self.pieces (take s.count s.read) (drop s.count s.read) _ pieces c.self.view_is, read_all s.router.cache.choice s.labels s.tail.pieces (take s.count s.read) (drop s.count s.read) _ _ (read_of _ _ _ _ took pieces) none c.self.view_is)

pub invariant_of-self-then-is_out_of_memory : goal.invariant_of-self-then-is_out_of_memory
invariant_of-self-then-is_out_of_memory c =
    let i = c.self.invariant in
    same_taken _ _ _ _ _ _ _ _ i (took_fault (take c.self.inside.count c.self.inside.read ++ drop c.self.inside.count c.self.inside.read) c.next_entry.new.self c.next_entry.result c.in-Err.fault (c.next_entry.ensures.takes _ i.taken) c.in-Err.is).0

pub returns-then-is_out_of_memory-clause-err : goal.returns-then-is_out_of_memory-clause-err
returns-then-is_out_of_memory-clause-err c =
    let s = c.self.inside in
    end_seen s.router.cache.choice s.labels s.tail.pieces c.next_entry.new.self.pieces (take s.count s.read) (drop s.count s.read) _ c.next_entry.ensures.pieces c.self.view_is

pub invariant_of-self-in-Err : goal.invariant_of-self-in-Err
invariant_of-self-in-Err c =
    let i = c.self.invariant in
    same_taken _ _ _ _ _ _ _ _ i (took_fault (take c.self.inside.count c.self.inside.read ++ drop c.self.inside.count c.self.inside.read) c.next_entry.new.self c.next_entry.result c.in-Err.fault (c.next_entry.ensures.takes _ i.taken) c.in-Err.is).0

pub returns-else-is_out_of_memory-clause-ok : goal.returns-else-is_out_of_memory-clause-ok
returns-else-is_out_of_memory-clause-ok c =
    let s = c.self.inside in
    let none = ap (λ (x : Sorting). x.hand) c.self.view_is ∙ c.requires in
    let took = (took_fault (take c.self.inside.count c.self.inside.read ++ drop c.self.inside.count c.self.inside.read) c.next_entry.new.self c.next_entry.result c.in-Err.fault (c.next_entry.ensures.takes _ c.self.invariant.taken) c.in-Err.is).1 (sym c.is_out_of_memory.ensures ∙ c.if-is_out_of_memory.false) in
    let pieces = c.next_entry.ensures.pieces in
    (end_seen s.router.cache.choice s.labels s.tail.pieces c.next_entry.new.self.pieces (take s.count s.read) (drop s.count s.read) _ pieces c.self.view_is, read_all s.router.cache.choice s.labels s.tail.pieces (take s.count s.read) (drop s.count s.read) _ _ (read_of _ _ _ _ took pieces) none c.self.view_is)

pub returns-then-is_out_of_memory-clause-certain : goal.returns-then-is_out_of_memory-clause-certain
returns-then-is_out_of_memory-clause-certain c =
    let s = c.self.inside in
    read_refused s.router.cache.choice s.labels s.tail (take s.count s.read) (drop s.count s.read) _ c.next_entry.result c.in-Err.fault c.self.view_is c.self.invariant.taken c.in-Err.is
    (sym c.is_out_of_memory.ensures ∙ c.if-is_out_of_memory.true) c.next_entry.ensures.certain
