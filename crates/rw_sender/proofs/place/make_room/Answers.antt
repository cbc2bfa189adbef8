use mir.Val.{SFits}
use mir.Syntax.{w64}
use Rattle.std.proofs.Common.{rules, ◌≡◌, ℕ, ℤ, true, false, refl, subst}
use Rattle.std.proofs.lemmas.Int.{to_z-of_z}
use Rattle.std.specs.Prelude.{Option, None}
use Rattle.std.proofs.lemmas.Result.{on_ok_weaker}
use Rattle.rw_types.specs.Labels.{Labels}
use Rattle.rw_sender.specs.Sizes.{size_of_sample}
use Rattle.rw_sender.specs.Rooms.{Counts}
use Rattle.rw_fleet.proofs.shared.LaneLemmas.{same_self, same_length}
use Rattle.rw_sender.proofs.shared.PlacementLemmas.{get_some}
use Rattle.rw_sender.proofs.CutLemmas.{room_made}
use Rattle.rw_sender.proofs.place.make_room.Goals as goal

same_bytes : (l m : Labels) (w : ℕ) (z t : ℤ) → l ≡ m → z ≡ t → size_of_sample l (w, z) ≡ size_of_sample m (w, t)
same_bytes l m w z t h g = λ i. size_of_sample (h i) (w, g i)

none_over : (limit : Option _) (k b : _) (old new : _) → limit ≡ None → Counts limit k b old new true → ⊥
none_over limit k b old new is h = let h' = subst (λ m. Counts m k b old new true) is h in absurd (let e : true ≡ false = h' in cc)

pub returns-then-count-clause-ok : goal.returns-then-count-clause-ok
returns-then-count-clause-ok g c =
    let fits : SFits w64 c.args.sample.now.t = search rules in
    let bytes = same_bytes _ _ c.args.sample.now.word _ _ c.deref.ensures (to_z-of_z w64 c.args.sample.now.t fits) in
    let counts = subst (λ n. Counts c.args.cuts.now.limit c.args.shard n c.args.cuts.now.rooms c.count.new.self.rooms true) bytes
    (subst (Counts c.args.cuts.now.limit c.args.shard _ c.args.cuts.now.rooms c.count.new.self.rooms) c.if-count.true c.count.ensures.counts) in
    on_ok_weaker c.mark_one.result (λ m. room_made c.args.cuts.now c.count.new.self c.args.shard _ true m.was c.args.fleet.now.current c.mark_one.new.self.current c.requires.counted m.at counts m.is) c.mark_one.ensures.ok

pub returns-then-count-clause-len : goal.returns-then-count-clause-len
returns-then-count-clause-len g c = same_length c.args.fleet.now.current c.mark_one.new.self.current c.mark_one.ensures.same

pub returns-then-count-clause-none : goal.returns-then-count-clause-none
returns-then-count-clause-none g c = λ none.
    let counts = subst (Counts c.args.cuts.now.limit c.args.shard _ c.args.cuts.now.rooms c.count.new.self.rooms) c.if-count.true c.count.ensures.counts in
    absurd (none_over c.args.cuts.now.limit _ _ _ _ none counts)

pub returns-clause-ok : goal.returns-clause-ok
returns-clause-ok g c =
    let fits : SFits w64 c.args.sample.now.t = search rules in
    let bytes = same_bytes _ _ c.args.sample.now.word _ _ c.deref.ensures (to_z-of_z w64 c.args.sample.now.t fits) in
    let counts = subst (λ n. Counts c.args.cuts.now.limit c.args.shard n c.args.cuts.now.rooms c.count.new.self.rooms false) bytes
    (subst (Counts c.args.cuts.now.limit c.args.shard _ c.args.cuts.now.rooms c.count.new.self.rooms) c.if-count.false c.count.ensures.counts) in
    let lane = get_some c.args.fleet.now.current c.args.shard c.requires.within in
    room_made c.args.cuts.now c.count.new.self c.args.shard _ false lane.0 c.args.fleet.now.current c.args.fleet.now.current c.requires.counted lane.1 counts refl

pub returns-clause-same : goal.returns-clause-same
returns-clause-same g c = same_self c.args.fleet.now.current
