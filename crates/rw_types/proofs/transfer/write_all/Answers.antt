use Rattle.std.proofs.Common.{◌≡◌, ℕ, ◌-◌, ◌≤◌, List, length, take, drop, arith, length-drop}
use Rattle.std.proofs.Math.Seq.{take-add}
use Rattle.std.proofs.lemmas.Grind.{common_steps}
use Rattle.std.proofs.KnownBytes.{Appends-trans}
use Rattle.rw_types.proofs.transfer.write_all.Goals as goal

-- the rest of a list, taken whole
rest : (xs : List ℕ) (a : ℕ) → take (length xs - a) (drop a xs) ≡ drop a xs
rest xs a = grind (arith, common_steps)

pub loop-at-preserved : goal.loop-at-preserved
loop-at-preserved g c =
    let bytes = c.args.bytes.now in
    let at = c.loop-at.at in
    let n = c.in_ok-at.field-0 in
    let bound : n ≤ length (take (length bytes - at) (drop at bytes)) = c.in_ok-at.ensures.bound in
    let more = Appends-trans _ _ _ _ _ c.loop-at.invariant.written c.in_ok-at.ensures.bytes in
    let failed = c.in_ok-at.ensures.failed in
    record {
      within = omega (arith, bound, rw (rest, length-drop) at bound);
      written = rw (take-add at n bytes) (rw rest at more);
      sound = λ _. grind (arith, failed);
      room = omega (arith, c.loop-at.invariant.room, c.in_ok-at.ensures.room_left);
    }
