use Rattle.std.proofs.Common.{◌∙◌, length, ap, arith}
use Rattle.rw_wal_format.specs.declared.tail_fault.TailFault.TheVariants.{Sequence}
use Rattle.rw_wal_tail.specs.declared.reader.Reader.{Reader}
use Rattle.rw_wal_format.specs.Types.{kind_of}
use Rattle.std.specs.Prelude.{vec_capacity}
use Rattle.rw_wal_tail.proofs.KeptLaws.{kept_same}
use Rattle.rw_wal_tail.specs.inner.Steps.{compresses}
use Rattle.rw_wal_tail.proofs.StepLaws.{Failing, IsInner, IsBegin, bad_open, bad_closed, bad_sort, plain_kind}
use Rattle.rw_wal_tail.proofs.reader.Reader.fragment.Goals as goal

pub returns-then-self-is_block-clause-same : goal.returns-then-self-is_block-clause-same
returns-then-self-is_block-clause-same c =
    let e = c.fail.ensures.new in
    let a : Failing c.args.self.now c.fail.new.self Sequence = record { input = ap (λ (r : Reader). r.input) e; left = ap (λ (r : Reader). r.left) e; zeros = ap (λ (r : Reader). r.zeros) e; ready = ap (λ (r : Reader). r.ready.items) e ∙ c.requires.can_step.none_ready; passed = ap (λ (r : Reader). r.passed) e; fault = ap (λ (r : Reader). r.fault) e; of_log = tt; mode = ap (λ (r : Reader). compresses r) e } in
    bad_sort c.args.self.now c.fail.new.self c.args.is_block c.args.len (kind_of c.args.kind) c.requires (plain_kind c.args.kind) c.if-self.true c.if-self-is_block.true a

pub returns-then-self-is_block-clause-kept : goal.returns-then-self-is_block-clause-kept
returns-then-self-is_block-clause-kept c n k =
    let e = c.fail.ensures.new in
    kept_same c.args.self.now c.fail.new.self n (ap (λ (r : Reader). r.input) e) (omega (arith, ap (λ (r : Reader). length r.begun.items) e)) (omega (arith, ap (λ (r : Reader). vec_capacity r.begun) e)) (ap (λ (r : Reader). r.passed) e) k

pub returns-in-Full-clause-same : goal.returns-in-Full-clause-same
returns-in-Full-clause-same c =
    let e = c.fail-in-Full.ensures.new in
    let i : IsBegin (kind_of c.args.kind) = rw c.in-Full.is tt in
    let a : Failing c.args.self.now c.fail-in-Full.new.self Sequence = record { input = ap (λ (r : Reader). r.input) e; left = ap (λ (r : Reader). r.left) e; zeros = ap (λ (r : Reader). r.zeros) e; ready = ap (λ (r : Reader). r.ready.items) e ∙ c.requires.can_step.none_ready; passed = ap (λ (r : Reader). r.passed) e; fault = ap (λ (r : Reader). r.fault) e; of_log = tt; mode = ap (λ (r : Reader). compresses r) e } in
    bad_open c.args.self.now c.fail-in-Full.new.self c.args.is_block c.args.len (kind_of c.args.kind) c.requires i c.if-self.true a

pub returns-in-First-clause-same : goal.returns-in-First-clause-same
returns-in-First-clause-same c =
    let e = c.fail-in-First.ensures.new in
    let i : IsBegin (kind_of c.args.kind) = rw c.in-First.is tt in
    let a : Failing c.args.self.now c.fail-in-First.new.self Sequence = record { input = ap (λ (r : Reader). r.input) e; left = ap (λ (r : Reader). r.left) e; zeros = ap (λ (r : Reader). r.zeros) e; ready = ap (λ (r : Reader). r.ready.items) e ∙ c.requires.can_step.none_ready; passed = ap (λ (r : Reader). r.passed) e; fault = ap (λ (r : Reader). r.fault) e; of_log = tt; mode = ap (λ (r : Reader). compresses r) e } in
    bad_open c.args.self.now c.fail-in-First.new.self c.args.is_block c.args.len (kind_of c.args.kind) c.requires i c.if-self.true a

pub returns-in-Middle-kind-clause-same : goal.returns-in-Middle-kind-clause-same
returns-in-Middle-kind-clause-same c =
    let e = c.fail-in-Middle-kind.ensures.new in
    let i : IsInner (kind_of c.args.kind) = rw c.in-Middle-kind.is tt in
    let a : Failing c.args.self.now c.fail-in-Middle-kind.new.self Sequence = record { input = ap (λ (r : Reader). r.input) e; left = ap (λ (r : Reader). r.left) e; zeros = ap (λ (r : Reader). r.zeros) e; ready = ap (λ (r : Reader). r.ready.items) e ∙ c.requires.can_step.none_ready; passed = ap (λ (r : Reader). r.passed) e; fault = ap (λ (r : Reader). r.fault) e; of_log = tt; mode = ap (λ (r : Reader). compresses r) e } in
    bad_closed c.args.self.now c.fail-in-Middle-kind.new.self c.args.is_block c.args.len (kind_of c.args.kind) c.requires i c.if-self.false a

pub returns-in-Last-kind-clause-same : goal.returns-in-Last-kind-clause-same
returns-in-Last-kind-clause-same c =
    let e = c.fail-in-Last-kind.ensures.new in
    let i : IsInner (kind_of c.args.kind) = rw c.in-Last-kind.is tt in
    let a : Failing c.args.self.now c.fail-in-Last-kind.new.self Sequence = record { input = ap (λ (r : Reader). r.input) e; left = ap (λ (r : Reader). r.left) e; zeros = ap (λ (r : Reader). r.zeros) e; ready = ap (λ (r : Reader). r.ready.items) e ∙ c.requires.can_step.none_ready; passed = ap (λ (r : Reader). r.passed) e; fault = ap (λ (r : Reader). r.fault) e; of_log = tt; mode = ap (λ (r : Reader). compresses r) e } in
    bad_closed c.args.self.now c.fail-in-Last-kind.new.self c.args.is_block c.args.len (kind_of c.args.kind) c.requires i c.if-self.false a

pub returns-in-Full-clause-kept : goal.returns-in-Full-clause-kept
returns-in-Full-clause-kept c n k =
    let e = c.fail-in-Full.ensures.new in
    kept_same c.args.self.now c.fail-in-Full.new.self n (ap (λ (r : Reader). r.input) e) (omega (arith, ap (λ (r : Reader). length r.begun.items) e)) (omega (arith, ap (λ (r : Reader). vec_capacity r.begun) e)) (ap (λ (r : Reader). r.passed) e) k

pub returns-in-First-clause-kept : goal.returns-in-First-clause-kept
returns-in-First-clause-kept c n k =
    let e = c.fail-in-First.ensures.new in
    kept_same c.args.self.now c.fail-in-First.new.self n (ap (λ (r : Reader). r.input) e) (omega (arith, ap (λ (r : Reader). length r.begun.items) e)) (omega (arith, ap (λ (r : Reader). vec_capacity r.begun) e)) (ap (λ (r : Reader). r.passed) e) k

pub returns-in-Middle-kind-clause-kept : goal.returns-in-Middle-kind-clause-kept
returns-in-Middle-kind-clause-kept c n k =
    let e = c.fail-in-Middle-kind.ensures.new in
    kept_same c.args.self.now c.fail-in-Middle-kind.new.self n (ap (λ (r : Reader). r.input) e) (omega (arith, ap (λ (r : Reader). length r.begun.items) e)) (omega (arith, ap (λ (r : Reader). vec_capacity r.begun) e)) (ap (λ (r : Reader). r.passed) e) k

pub returns-in-Last-kind-clause-kept : goal.returns-in-Last-kind-clause-kept
returns-in-Last-kind-clause-kept c n k =
    let e = c.fail-in-Last-kind.ensures.new in
    kept_same c.args.self.now c.fail-in-Last-kind.new.self n (ap (λ (r : Reader). r.input) e) (omega (arith, ap (λ (r : Reader). length r.begun.items) e)) (omega (arith, ap (λ (r : Reader). vec_capacity r.begun) e)) (ap (λ (r : Reader). r.passed) e) k
