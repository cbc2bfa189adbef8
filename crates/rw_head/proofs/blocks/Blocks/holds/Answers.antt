use Rattle.std.proofs.Common.{map, ◌-◌, ◌<◌, ◌≡◌, suc, true, false, length, subst, sym, ap, arith, ◌∙◌}
use Rattle.std.proofs.Math.Facts.{to_z-of_z}
use Rattle.rw_head.specs.Order.{holds}
use Rattle.rw_head.specs.Lists.{IsEarlier}
use Rattle.rw_types.specs.Rising.{Rises}
use Rattle.rw_types.proofs.shared.RisingLemmas.{Rises-left, Rises-right}
use Rattle.rw_head.specs.Blocks.{joined_blocks}
use Rattle.rw_head.specs.inner.Blocks.{Begun, begins_after}
use Rattle.rw_head.proofs.BlockLemmas.{Rises-block, Begun-same, in_open, in_sealed, in_block, in_no_block, map_at, length-map-of}
use Rattle.rw_head.proofs.blocks.Blocks.holds.Goals as goal

pub holds-requires : goal.holds-requires
holds-requires c = rw c.deref-then-not-begins_after.ensures.value (Rises-right IsEarlier (joined_blocks (map (λ b. b.value) c.self.inside.sealed.items)) c.self.inside.rest.items (subst (Rises IsEarlier) (sym c.self.view_is) c.requires))

pub returns-then-not-begins_after : goal.returns-then-not-begins_after
returns-then-not-begins_after c =
    let t = c.args.t in
    let first : begins_after t c.self.inside.rest.items ≡ false = ap (λ z. begins_after z c.self.inside.rest.items) (sym (to_z-of_z c.ranges.t)) ∙ ap (begins_after _) (sym c.deref.ensures.value) ∙ sym c.begins_after.ensures ∙ c.if-not-begins_after.true in
    c.holds.ensures ∙ ap (λ z. holds (z, c.args.word) c.deref-then-not-begins_after.result.now) (to_z-of_z c.ranges.t) ∙ ap (holds (t, c.args.word)) c.deref-then-not-begins_after.ensures.value
    ∙ sym (in_open (t, c.args.word) (joined_blocks (map (λ b. b.value) c.self.inside.sealed.items)) c.self.inside.rest.items (subst (Rises IsEarlier) (sym c.self.view_is) c.requires) first) ∙ ap (holds (t, c.args.word)) c.self.view_is

pub count_begun-begun-requires-clause-rises : goal.count_begun-begun-requires-clause-rises
count_begun-begun-requires-clause-rises c = rw c.deref-2.ensures.value (Rises-left IsEarlier (joined_blocks (map (λ b. b.value) c.self.inside.sealed.items)) c.self.inside.rest.items (subst (Rises IsEarlier) (sym c.self.view_is) c.requires))

pub returns-then-begun-eq0 : goal.returns-then-begun-eq0
returns-then-begun-eq0 c =
    let after : begins_after c.args.t c.self.inside.rest.items ≡ true = ap (λ z. begins_after z c.self.inside.rest.items) (sym (to_z-of_z c.ranges.t)) ∙ ap (begins_after _) (sym c.deref.ensures.value) ∙ sym c.begins_after.ensures ∙ c.if-not-begins_after.false in
    let none : Begun c.args.t (map (λ b. b.value) c.self.inside.sealed.items) 0 = Begun-same c.args.t _ (map (λ b. b.value) c.self.inside.sealed.items) _ _ 0 (to_z-of_z c.ranges.t) (ap (map (λ b. b.value)) c.deref-2.ensures.value) (omega arith) c.count_begun-begun.ensures in
    sym (in_no_block (c.args.t, c.args.word) (map (λ b. b.value) c.self.inside.sealed.items) c.self.invariant.full (Rises-left IsEarlier (joined_blocks (map (λ b. b.value) c.self.inside.sealed.items)) c.self.inside.rest.items (subst (Rises IsEarlier) (sym c.self.view_is) c.requires)) none)
    ∙ sym (in_sealed (c.args.t, c.args.word) (joined_blocks (map (λ b. b.value) c.self.inside.sealed.items)) c.self.inside.rest.items (subst (Rises IsEarlier) (sym c.self.view_is) c.requires) after) ∙ ap (holds (c.args.t, c.args.word)) c.self.view_is

pub holds-requires-2 : goal.holds-requires-2
holds-requires-2 c =
    let n = c.count_begun-begun.result - 1 in
    let within = c.count_begun-begun.ensures.within in
    let inside : n < length c.self.inside.sealed.items = omega (arith, within, ap length c.deref-2.ensures.value, length-map-of (λ b. b.value) c.deref-2.result.now) in
    let block = map_at (λ b. b.value) c.self.inside.sealed.items n c.index.result.now inside c.index.ensures in
    rw (c.samples.ensures.samples, c.deref-3.ensures, block)
    (Rises-block (map (λ b. b.value) c.self.inside.sealed.items) n (Rises-left IsEarlier (joined_blocks (map (λ b. b.value) c.self.inside.sealed.items)) c.self.inside.rest.items (subst (Rises IsEarlier) (sym c.self.view_is) c.requires)) (omega (arith, inside, length-map-of (λ b. b.value) c.self.inside.sealed.items)))

pub returns : goal.returns
returns c =
    let after : begins_after c.args.t c.self.inside.rest.items ≡ true = ap (λ z. begins_after z c.self.inside.rest.items) (sym (to_z-of_z c.ranges.t)) ∙ ap (begins_after _) (sym c.deref.ensures.value) ∙ sym c.begins_after.ensures ∙ c.if-not-begins_after.false in
    let n = c.count_begun-begun.result - 1 in
    let within = c.count_begun-begun.ensures.within in
    let inside : n < length c.self.inside.sealed.items = omega (arith, within, ap length c.deref-2.ensures.value, length-map-of (λ b. b.value) c.deref-2.result.now) in
    let block = map_at (λ b. b.value) c.self.inside.sealed.items n c.index.result.now inside c.index.ensures in
    let some : Begun c.args.t (map (λ b. b.value) c.self.inside.sealed.items) (suc n) = Begun-same c.args.t _ (map (λ b. b.value) c.self.inside.sealed.items) _ _ (suc n) (to_z-of_z c.ranges.t) (ap (map (λ b. b.value)) c.deref-2.ensures.value) (omega arith) c.count_begun-begun.ensures in
    c.holds-2.ensures ∙ ap (λ z. holds (z, c.args.word) c.samples.result.now) (to_z-of_z c.ranges.t)
    ∙ ap (holds (c.args.t, c.args.word)) (c.samples.ensures.samples ∙ c.deref-3.ensures ∙ block)
    ∙ sym (in_block (c.args.t, c.args.word) (map (λ b. b.value) c.self.inside.sealed.items) n c.self.invariant.full (Rises-left IsEarlier (joined_blocks (map (λ b. b.value) c.self.inside.sealed.items)) c.self.inside.rest.items (subst (Rises IsEarlier) (sym c.self.view_is) c.requires)) some)
    ∙ sym (in_sealed (c.args.t, c.args.word) (joined_blocks (map (λ b. b.value) c.self.inside.sealed.items)) c.self.inside.rest.items (subst (Rises IsEarlier) (sym c.self.view_is) c.requires) after) ∙ ap (holds (c.args.t, c.args.word)) c.self.view_is
