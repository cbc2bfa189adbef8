use Rattle.std.proofs.Common.{◌≡◌, ◌+◌, ◌-◌, ◌/◌, ◌%◌, ◌++◌, List, OnOk, length, take, drop, subst, ap, ◌∙◌, arith}
use Rattle.rw_head.specs.Order.{Point}
use Rattle.rw_head.proofs.BlockLemmas.{long_enough, copied_open, copied_inside, all_taken}
use Rattle.rw_head.proofs.blocks.Blocks.copy_from.Goals as goal

pub copy_part-requires : goal.copy_part-requires
copy_part-requires c =
    omega (
      arith,
      long_enough (λ b. b.value) c.self.inside.sealed.items c.self.inside.rest.items c.args.self.now c.args.start (c.args.start / 120) (c.args.start % 120)
          c.self.invariant.full c.self.invariant.few (omega arith) (omega arith) c.requires c.self.view_is,
      ap length c.deref.ensures.value,
    )

pub returns-then-full-len : goal.returns-then-full-len
returns-then-full-len c =
    subst (λ ys. OnOk c.copy_part.result (c.copy_part.new.samples.items ≡ c.args.samples.now.items ++ ys))
    (ap (drop (c.args.start % 120)) c.deref.ensures.value
    ∙ copied_open (λ b. b.value) c.self.inside.sealed.items c.self.inside.rest.items c.args.self.now c.args.start (c.args.start / 120) (c.args.start % 120)
    c.self.invariant.full c.self.invariant.few (omega arith) (omega arith) c.requires c.self.view_is)
    c.copy_part.ensures

pub returns : goal.returns
returns c =
    subst (λ ys. OnOk c.copy_part-3.result (c.copy_part-3.new.samples.items ≡ ys))
    (ap (λ (r : List Point). c.copy_blocks.new.samples.items ++ r) c.deref-4.ensures.value
    ∙ copied_inside (λ b. b.value) c.self.inside.sealed.items (take (length c.deref-3.result.now - (c.args.start / 120 + 1)) (drop (c.args.start / 120 + 1) c.deref-3.result.now)) c.index.result.now c.self.inside.rest.items c.args.self.now
    c.args.samples.now.items c.copy_part-2.new.samples.items c.copy_blocks.new.samples.items c.args.start (c.args.start / 120) (c.args.start % 120)
    c.self.invariant.full (omega arith) (omega arith) (omega arith) c.index.ensures (all_taken (c.args.start / 120 + 1) c.deref-3.result.now ∙ ap (drop (c.args.start / 120 + 1)) c.deref-3.ensures.value)
    (c.in_ok-copy_part.ensures ∙ ap (λ b. c.args.samples.now.items ++ drop (c.args.start % 120) b) (c.samples.ensures.samples ∙ c.deref-2.ensures))
    c.in_ok-copy_blocks.ensures c.self.view_is)
    c.copy_part-3.ensures
