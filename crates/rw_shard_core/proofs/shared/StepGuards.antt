-- What the guards of a shard's steps give.
use Rattle.std.proofs.Common.{◌≡◌, ◌<◌, ◌&&◌, not, nat_le, true, false, length, refl}
use Rattle.std.proofs.Math.Bool.{and-false}
use Rattle.std.proofs.lemmas.Bool.{and_parts, or_parts, not-true, not-false, leb-false, eq-eqb}
use Rattle.rw_batch.specs.declared.batch.BatchId.{BatchId}
use Rattle.rw_shard_core.specs.Shard.{Core, is_empty, is_due, can_take, can_freeze, can_send, send, awaits, is_answer, batch_id, same_id}

-- to take: no batch is open, and the builder is not due
pub record TakeParts (c : Core) : Type 0 where
  pub none : is_empty c.batch ≡ true
  pub not_due : is_due c ≡ false
  pub not_full : nat_le c.full (length c.builder) ≡ false
  pub unmarked : c.marked ≡ false
  pub room : length c.builder < c.full

pub take_parts : (c : Core) → can_take c ≡ true → TakeParts c
take_parts c can =
    let rest = (and_parts (not c.killed) (is_empty c.batch && not (is_due c)) can).1 in
    let both = and_parts (is_empty c.batch) (not (is_due c)) rest in
    let due = not-true (is_due c) both.1 in
    let none = or_parts (nat_le c.full (length c.builder)) c.marked due in
    record { none = both.0; not_due = due; not_full = none.0; unmarked = none.1; room = leb-false c.full (length c.builder) none.0 }

pub cannot_take : (c : Core) → is_empty c.batch ≡ false → can_take c ≡ false
cannot_take c some = rw some (and-false (not c.killed))

-- what is not to be taken into is due
pub due_if_full : (c : Core) → c.killed ≡ false → is_empty c.batch ≡ true → can_take c ≡ false → is_due c ≡ true
due_if_full c alive none full = not-false (is_due c) (rw (alive, none) at full)

-- to freeze: no batch is open, and the builder has samples
pub record FreezeParts (c : Core) : Type 0 where
  pub none : is_empty c.batch ≡ true
  pub some : is_empty c.builder ≡ false

pub freeze_parts : (c : Core) → can_freeze c ≡ true → FreezeParts c
freeze_parts c can =
    let rest = (and_parts (not c.killed) (is_empty c.batch && not (is_empty c.builder)) can).1 in
    let both = and_parts (is_empty c.batch) (not (is_empty c.builder)) rest in
    record { none = both.0; some = not-true (is_empty c.builder) both.1 }

-- to send: a batch is open
pub record SendParts (c : Core) : Type 0 where
  pub alive : c.killed ≡ false
  pub some : is_empty c.batch ≡ false

pub send_parts : (c : Core) → can_send c ≡ true → SendParts c
send_parts c can =
    let all = and_parts (not c.killed) (not (is_empty c.batch) && not c.waiting) can in
    let both = and_parts (not (is_empty c.batch)) (not c.waiting) all.1 in
    record { alive = not-true c.killed all.0; some = not-true (is_empty c.batch) both.0 }

-- an attempt that is out awaits its answer
abbrev pub sent_core : Core → Core
sent_core c = record c { waiting = true }

pub send-is : (c : Core) → can_send c ≡ true → send c ≡ sent_core c
send-is c can = rw can refl

pub sent-awaits : (c : Core) → can_send c ≡ true → awaits (sent_core c) ≡ true
sent-awaits c can = let p = send_parts c can in rw (p.alive, p.some) refl

pub same_id-self : (id : BatchId) → same_id id id ≡ true
same_id-self id = rw (eq-eqb id.epoch id.epoch refl, eq-eqb id.shard id.shard refl, eq-eqb id.seq id.seq refl) refl

pub sent-answers : (c : Core) → can_send c ≡ true → is_answer (batch_id c.batch) (sent_core c) ≡ true
sent-answers c can = rw (sent-awaits c can) (same_id-self (batch_id c.batch))
