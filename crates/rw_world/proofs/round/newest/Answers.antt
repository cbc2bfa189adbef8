use Rattle.std.proofs.Common.{◌≡◌, ◌∙◌, ◌+◌, ◌-◌, ◌<◌, true, false, length, get_or, sym, ap, arith}
use Rattle.rw_shard_core.specs.Shard.{same_id}
use Rattle.rw_machine.specs.Worlds.{Request}
use Rattle.rw_world.proofs.RoundLemmas.{newest_found, newest_passed}
use Rattle.rw_world.proofs.round.newest.Goals as goal

pub returns-then-is_same : goal.returns-then-is_same
returns-then-is_same c =
    let i = c.loop-k.k in
    let sent = c.args.requests.now in
    let id = c.args.id in
    let found = c.index-requests-k.result in
    let n : i ≡ (i - 1) + 1 = omega arith in
    let lt : i - 1 < length sent = omega (arith, c.loop-k.invariant.0) in
    let same : same_id id (get_or sent (i - 1) found).id ≡ true = ap (λ (x : Request). same_id id x.id) (sym c.index-requests-k.is) ∙ ap (same_id id) (sym c.id.ensures) ∙ sym c.is_same.ensures ∙ c.if-is_same.true in
    newest_found id sent i (i - 1) found n lt c.loop-k.invariant.1 same

pub loop-k-preserved : goal.loop-k-preserved
loop-k-preserved c =
    let i = c.loop-k.k in
    let sent = c.args.requests.now in
    let id = c.args.id in
    let found = c.index-requests-k.result in
    let n : i ≡ (i - 1) + 1 = omega arith in
    let lt : i - 1 < length sent = omega (arith, c.loop-k.invariant.0) in
    let other : same_id id (get_or sent (i - 1) found).id ≡ false = ap (λ (x : Request). same_id id x.id) (sym c.index-requests-k.is) ∙ ap (same_id id) (sym c.id.ensures) ∙ sym c.is_same.ensures ∙ c.if-is_same.false in
    (omega arith, newest_passed id sent i (i - 1) found n lt c.loop-k.invariant.1 other)
