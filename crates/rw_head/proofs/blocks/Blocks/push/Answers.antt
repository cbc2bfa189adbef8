use Rattle.std.proofs.Common.{◌≡◌, ◌++◌, ◌∷◌, [], length, map, vec_capacity, ap, ◌∙◌, arith}
use Rattle.std.proofs.lemmas.List.{length_push}
use Rattle.rw_head.specs.Blocks.{joined_blocks}
use Rattle.rw_head.proofs.BlockLemmas.{AreBlocks-sealed, pushed_sealed, put_back}
use Rattle.rw_head.proofs.blocks.Blocks.push.Goals as goal

pub invariant_of-self-in-Ok : goal.invariant_of-self-in-Ok
invariant_of-self-in-Ok c =
    let rest = c.self.inside.rest.items in
    let sealed = map (λ b. b.value) c.self.inside.sealed.items in
    let both : c.deref.result.now ≡ rest ++ c.args.sample ∷ [] = c.deref.ensures.value ∙ c.in_ok-push.ensures.items in
    let len : length (rest ++ c.args.sample ∷ []) ≡ 120 = omega (arith, ap length c.in_ok-push.ensures.items, length_push rest c.args.sample, c.self.invariant.few) in
    AreBlocks-sealed sealed (map (λ b. b.value) c.seal-sealed.new.sealed.items) rest c.clear.new.self.items c.args.sample (vec_capacity c.self.inside.rest) (vec_capacity c.clear.new.self) c.self.invariant
    (c.in-Ok.ensures.ok ∙ ap (λ xs. sealed ++ xs ∷ []) both) len c.clear.ensures.items (omega (arith, c.clear.ensures.capacity)) (omega (arith, ap length c.self.view_is, c.requires))

pub returns-in-Ok-clause-ok : goal.returns-in-Ok-clause-ok
returns-in-Ok-clause-ok c =
    rw c.in-Ok.is (pushed_sealed (map (λ b. b.value) c.self.inside.sealed.items) (map (λ b. b.value) c.seal-sealed.new.sealed.items) c.self.inside.rest.items c.clear.new.self.items c.deref.result.now c.args.self.now c.args.sample
    c.in-Ok.ensures.ok (c.deref.ensures.value ∙ c.in_ok-push.ensures.items) c.clear.ensures.items c.self.view_is)

pub returns-in-Err-clause-err : goal.returns-in-Err-clause-err
returns-in-Err-clause-err c =
    let rest = c.self.inside.rest.items in
    let len : length rest ≡ 119 = omega (arith, ap length c.in_ok-push.ensures.items, length_push rest c.args.sample, c.self.invariant.few) in
    rw c.in-Err.is (ap (λ bs. joined_blocks (map (λ b. b.value) bs) ++ c.truncate.new.self.items) c.in-Err.ensures.err
    ∙ put_back (map (λ b. b.value) c.self.inside.sealed.items) rest c.truncate.new.self.items c.push.new.self.items c.args.self.now c.args.sample c.in_ok-push.ensures.items c.truncate.ensures.items len c.self.view_is)
