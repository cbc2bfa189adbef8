use Rattle.std.proofs.Common.{◌≡◌, ◌<◌, ◌∙◌, ◌∷◌, [], List, ℕ, map, length, sym, ap, arith}
use Rattle.std.proofs.lemmas.List.{map-append, length-map, get_or-map}
use Rattle.rw_wal_tail.specs.inner.Held.{waits_as}
use Rattle.rw_wal_tail.proofs.CopyLaws.{copied_more}
use Rattle.rw_wal_tail.proofs.input.copy_all.Goals as goal

pub loop-i-preserved : goal.loop-i-preserved
loop-i-preserved c =
    let items = c.args.segments.now.items in
    let lt : c.loop-i.i < length items = omega (arith, c.loop-i-test.true, c.len-i-end.ensures, c.args.segments.now.ok.0) in
    let s = c.index-segment.result.now in
    let v = c.in_ok-copy_of.field-0 in
    let same : v.items ≡ s.bytes.items = c.in_ok-copy_of.ensures ∙ c.deref.ensures.value in
    copied_more (map waits_as items) (map waits_as c.loop-i.copy.items) (map waits_as c.push_back.new.self.items) c.loop-i.i (s.number, v.items)
    (ap (map waits_as) c.in_ok-push_back.ensures.items ∙ map-append waits_as c.loop-i.copy.items (record { number = s.number; bytes = v } ∷ []))
    c.loop-i.invariant (omega (arith, lt, length-map items waits_as))
    (get_or-map waits_as items c.loop-i.i s (s.number, v.items) lt ∙ ap waits_as (sym c.index-segment.ensures) ∙ ap (λ (l : List ℕ). (s.number, l)) (sym same))
