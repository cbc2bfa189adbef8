use Rattle.std.proofs.Common.{◌≡◌, ◌⊎◌, ◌<◌, ◌-◌, ◌^◌, ℕ, List, [], length, Some, refl, ap, subst, inl, inr, arith}
use Rattle.rw_types.specs.Memory.{Reserved}
use Rattle.rw_shard_core.specs.declared.replies.ReplyRead.{ReplyRead}
use Rattle.rw_shard_core.specs.declared.replies.ReplyRead.TheVariants.{Status, Partial, Bad}
use Rattle.rw_shard_core.specs.Replies.{ReadsReply}
use Rattle.rw_roundtrip.proofs.ExchangeLemmas.{heard, heard_status, turned, unheard}
use Rattle.rw_roundtrip.proofs.in_memory.exchange.Goals as goal

pub returns-in-OutOfMemory-clause-answered : goal.returns-in-OutOfMemory-clause-answered
returns-in-OutOfMemory-clause-answered g c = λ body one.
    let new = c.in_ok-writer.ensures in
    let alone = c.serve.ensures.alone c.args.request.now [] body refl (ap (λ (r : Reserved). Some r.bytes) new) refl (ap (λ (r : Reserved). r.has_failed) new) (omega (arith, ap (λ (r : Reserved). r.room) new)) one in
    unheard g.A.Answer.answers body c.args.answer.now (Some c.serve.new.writer.bytes) c.serve.new.answer c.serve.result alone c.in-OutOfMemory.is

pub returns-in-OutOfMemory-clause-refused : goal.returns-in-OutOfMemory-clause-refused
returns-in-OutOfMemory-clause-refused g c = λ status one.
    let new = c.in_ok-writer.ensures in
    let short : length c.args.request.now < 2 ^ 64 - 1 = omega arith in
    (c.serve.ensures.refused c.args.request.now [] status refl (ap (λ (r : Reserved). Some r.bytes) new) refl (ap (λ (r : Reserved). r.has_failed) new) (omega (arith, ap (λ (r : Reserved). r.room) new)) short one).0

pub returns-in-Status : goal.returns-in-Status
returns-in-Status g c =
    let new = c.in_ok-writer.ensures in
    let short : length c.args.request.now < 2 ^ 64 - 1 = omega arith in
    let reads : ReadsReply 8192 c.serve.new.writer.bytes c.read_reply.result = subst (λ (t : List ℕ). ReadsReply 8192 t c.read_reply.result) c.as_slice.ensures c.read_reply.ensures in
    record {
      answered = λ body one.
          let alone = c.serve.ensures.alone c.args.request.now [] body refl (ap (λ (r : Reserved). Some r.bytes) new) refl (ap (λ (r : Reserved). r.has_failed) new) (omega (arith, ap (λ (r : Reserved). r.room) new)) one in
          heard_status g.A.Answer.answers body c.args.answer.now c.serve.new.answer c.read_reply.result c.in-Status.status
          (heard g.A.Answer.answers body c.args.answer.now c.serve.new.writer.bytes c.serve.new.answer c.serve.result c.read_reply.result alone c.in_default.not-OutOfMemory reads) c.in-Status.is;
      refused = λ status one.
          let away = c.serve.ensures.refused c.args.request.now [] status refl (ap (λ (r : Reserved). Some r.bytes) new) refl (ap (λ (r : Reserved). r.has_failed) new) (omega (arith, ap (λ (r : Reserved). r.room) new)) short one in
          let is = turned status c.args.answer.now c.serve.new.writer.bytes c.serve.new.answer c.serve.result c.read_reply.result away reads in
          (let same = is.0 in let read = c.in-Status.is in (cc), is.1);
    }

-- what a reader returns is a status
no_status : (read : ReplyRead) (status : ℕ) → read ≡ Status status → (read ≡ Partial) ⊎ (read ≡ Bad) → ⊥
no_status read status e (inl p) = cc
no_status read status e (inr b) = cc

pub unreachable-requires : goal.unreachable-requires
unreachable-requires g c =
    let new = c.in_ok-writer.ensures in
    let short : length c.args.request.now < 2 ^ 64 - 1 = omega arith in
    let reads : ReadsReply 8192 c.serve.new.writer.bytes c.read_reply.result = subst (λ (t : List ℕ). ReadsReply 8192 t c.read_reply.result) c.as_slice.ensures c.read_reply.ensures in
    elim c.requires as (λ _. ⊥) [
      | inl one ↦
          let alone = c.serve.ensures.alone c.args.request.now [] one.0 refl (ap (λ (r : Reserved). Some r.bytes) new) refl (ap (λ (r : Reserved). r.has_failed) new) (omega (arith, ap (λ (r : Reserved). r.room) new)) one.1 in
          let h = heard g.A.Answer.answers one.0 c.args.answer.now c.serve.new.writer.bytes c.serve.new.answer c.serve.result c.read_reply.result alone c.in_default.not-OutOfMemory reads in
          no_status c.read_reply.result h.status h.is c.in-Partial.is
      | inr one ↦
          let away = c.serve.ensures.refused c.args.request.now [] one.0 refl (ap (λ (r : Reserved). Some r.bytes) new) refl (ap (λ (r : Reserved). r.has_failed) new) (omega (arith, ap (λ (r : Reserved). r.room) new)) short one.1 in
          let is = turned one.0 c.args.answer.now c.serve.new.writer.bytes c.serve.new.answer c.serve.result c.read_reply.result away reads in
          no_status c.read_reply.result one.0 is.0 c.in-Partial.is
    ]
