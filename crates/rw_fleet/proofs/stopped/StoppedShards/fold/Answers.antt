use Rattle.std.proofs.Common.{◌≡◌, ◌++◌, List, map, sym, ap, ◌∙◌, subst}
use Rattle.std.specs.List.{sum_by}
use Rattle.rw_fleet.specs.Loads.{load_of, resolved_in, left_in_shard}
use Rattle.rw_fleet.specs.Stopped.{StoppedList, names_in_parts, part_of}
use Rattle.rw_fleet.specs.Work.{AreResolved}
use Rattle.rw_fleet.specs.declared.joined.StoppedShard.{StoppedShard}
use Rattle.rw_fleet.proofs.StoppedLemmas.{load_append, names_append, on_ok}
use Rattle.rw_fleet.proofs.stopped.StoppedShards.fold.Goals as goal

pub invariant_of-result-2 : goal.invariant_of-result-2
invariant_of-result-2 g c =
    let i = c.self.invariant in
    let first = c.self.inside.folded in
    let last = c.self.inside.kept.items in
    let all = c.extend.ensures ∙ ap (λ (js : List (StoppedShard _)). first ++ js) c.deref.ensures.value in
    let named = on_ok c.push_parts.result _ (sym c.is_err.ensures.value ∙ c.if-is_err.false) c.push_parts.ensures.all in (
      subst (λ (js : List (StoppedShard _)). AreResolved js) (sym (all ∙ ap (λ (s : StoppedList _). s.items) c.self.view_is)) c.requires,
      subst (λ (js : List (StoppedShard _)). c.load_with-load.result ≡ load_of (sum_by resolved_in js) (sum_by left_in_shard js)) (sym all) (load_append first last c.load_with-load.result (c.load_with-load.ensures _ _ i.1)),
      named ∙ ap (λ l. l ++ names_in_parts (map part_of last)) i.2 ∙ sym (names_append first last) ∙ ap (λ (js : List (StoppedShard _)). names_in_parts (map part_of js)) (sym all),
    )
