use Rattle.std.proofs.Common.{◌≡◌, ℕ, ◌+◌, ◌∷◌, ◌++◌, [], length, get_or, Some, Ok, Err, refl, ap, subst, sym, ◌∙◌, arith}
use Rattle.std.proofs.lemmas.List.{length_push}
use Rattle.std.proofs.lemmas.Result.{err_from_is_err_and}
use Rattle.std.specs.BTreeMap.{is_at, Updates}
use Rattle.std.specs.Map.{lookup}
use Rattle.rw_types.specs.LabelOrder.{labels_cmp}
use Rattle.rw_head.specs.Order.{points, accept}
use Rattle.rw_head.specs.Store.{list_of, total}
use Rattle.rw_head.specs.Verdicts.{accepted}
use Rattle.rw_head.specs.Lists.{no_lists}
use Rattle.rw_head.specs.inner.Finds.{Enters, names_after}
use Rattle.rw_head.specs.inner.Lists.{IsSound, IsAdded, kept_store, staged_store, settled_names}
use Rattle.rw_head.proofs.PlaceLemmas.{IsSound-same, staged_few, staged_nowhere}
use Rattle.rw_head.proofs.shared.StagingLemmas.{accepted_has}
use Rattle.rw_head.proofs.PlacedLemmas.{settled-push}
use Rattle.rw_head.proofs.TableLemmas.{Holds, held_at, held_in, is_some, length_points}
use Rattle.rw_head.proofs.ForgettingLemmas.{listed_at, listed_in}
use Rattle.rw_head.proofs.table.Table.stage_named.Goals.{After-drop-share-inside-in-Had-1, After-put-in-New-2}
use Rattle.rw_head.proofs.table.Table.stage_named.Goals as goal

pub returns-in_err-place-clause-staged : goal.returns-in_err-place-clause-staged
returns-in_err-place-clause-staged c =
    let l = c.args.name in
    let s = c.args.self.now.staged in
    let pts = points c.args.samples.now in
    let p = err_from_is_err_and c.from_residual-in_err-place.result c.from_residual-in_err-place.ensures.1 in
    rw (p.1, p.2) (λ other.
    let bad = c.in_err-place.ensures.err other in
    let none : list_of s l ≡ [] = ap (λ t. list_of t.staged l) (sym c.self.view_is) ∙ staged_nowhere c.self.inside.places.tree c.self.inside.lists.items l bad.missing in
    ap (accepted l s) (ap (λ xs. accept (Some xs) pts) none ∙ bad.refused) ∙ ap Err (sym bad.verdict))

pub stage_held-requires-clause-room : goal.stage_held-requires-clause-room
stage_held-requires-clause-room c =
    let had = subst (λ e. Enters e c.self.inside.places.tree c.enter.new.self.tree c.args.name (length c.self.inside.places.names.items) (points c.args.samples.now)) c.in-Had.is c.in_ok-place.ensures.ok in
    let few = staged_few c.self.inside.places.tree c.self.inside.lists.items c.args.name c.in-Had.place had.0 in
    omega (arith, few, c.requires.room, ap (λ s. total s.staged) c.self.view_is, ap (λ ls. length (get_or ls c.in-Had.place no_lists).staged) c.reserve.ensures.items)

-- what the table holds after samples of a label set that had a place
after_had : (c : After-drop-share-inside-in-Had-1) → Holds c.enter.new.self.tree c.enter.new.self.tree c.reserve.new.self.items c.stage_held.new.lists.items c.stage_held.new.touched.items c.reserve-3.new.self.items c.self.inside.count c.stage_held.new.count c.stage_held.result c.args.name (points c.args.samples.now) c.args.self.now.staged
after_had c =
    let had = subst (λ e. Enters e c.self.inside.places.tree c.enter.new.self.tree c.args.name (length c.self.inside.places.names.items) (points c.args.samples.now)) c.in-Had.is c.in_ok-place.ensures.ok in
    let few = c.stage_held.ensures.few in
    held_at c.stage_held.result c.args.name (points c.args.samples.now) refl refl
    (IsSound-same c.self.inside.places.tree c.enter.new.self.tree c.self.inside.lists.items c.reserve.new.self.items c.self.inside.touched.items c.reserve-2.new.self.items c.self.inside.fresh.items c.reserve-3.new.self.items
    c.self.inside.count c.self.inside.staged_count c.self.invariant.0 had.1 c.reserve.ensures.items c.reserve-2.ensures.items c.reserve-3.ensures.items)
    (ap (λ es. staged_store es c.reserve.new.self.items) had.1 ∙ ap (staged_store c.self.inside.places.tree.entries) c.reserve.ensures.items ∙ ap (λ s. s.staged) c.self.view_is)
    (ap (lookup (is_at (labels_cmp c.args.name))) had.1 ∙ had.0)
    c.stage_held.ensures.held c.stage_held.ensures.staged
    (omega (arith, few, c.requires.room, c.self.invariant.0.counted_staged, ap (λ s. total s.staged) c.self.view_is))

pub invariant_of-self-in-Had-1 : goal.invariant_of-self-in-Had-1
invariant_of-self-in-Had-1 c =
    let held = c.stage_held.ensures.held in
    let had = subst (λ e. Enters e c.self.inside.places.tree c.enter.new.self.tree c.args.name (length c.self.inside.places.names.items) (points c.args.samples.now)) c.in-Had.is c.in_ok-place.ensures.ok in
    let names = subst (λ e. c.enter.new.self.names.items ≡ names_after e c.self.inside.places.names.items c.args.name) c.in-Had.is c.in_ok-place.ensures.names in
    ((after_had c).sound, listed_at c.self.invariant.1 c.reserve.ensures.items (ap length names) (c.self.invariant.0.places.within c.args.name c.in-Had.place had.0) held)

pub returns-in-Had-clause-kept : goal.returns-in-Had-clause-kept
returns-in-Had-clause-kept c =
    let had = subst (λ e. Enters e c.self.inside.places.tree c.enter.new.self.tree c.args.name (length c.self.inside.places.names.items) (points c.args.samples.now)) c.in-Had.is c.in_ok-place.ensures.ok in
    (after_had c).kept ∙ ap (λ es. kept_store es c.reserve.new.self.items) had.1 ∙ ap (kept_store c.self.inside.places.tree.entries) c.reserve.ensures.items ∙ ap (λ s. s.kept) c.self.view_is

pub returns-in-Had-clause-staged : goal.returns-in-Had-clause-staged
returns-in-Had-clause-staged c = (after_had c).gives

-- what it holds after those of a new one
after_new : (c : After-put-in-New-2) → Holds c.self.inside.places.tree c.enter.new.self.tree c.self.inside.lists.items c.put-in-New.new.items.items c.put.new.items.items c.put-in-New-2.new.items.items c.self.inside.count (c.self.inside.staged_count + length c.in-New.list.staged) (Ok tt) c.args.name (points c.args.samples.now) c.args.self.now.staged
after_new c =
    let new = subst (λ e. Enters e c.self.inside.places.tree c.enter.new.self.tree c.args.name (length c.self.inside.places.names.items) (points c.args.samples.now)) c.in-New.is c.in_ok-place.ensures.ok in
    let staged = new.1.1 in
    let few = staged.few in
    let len : c.len.result ≡ length c.self.inside.lists.items = omega (arith, c.len.ensures, ap length c.reserve.ensures.items) in
    let add : IsAdded c.self.inside.places.tree c.enter.new.self.tree c.self.inside.lists.items c.put-in-New.new.items.items c.self.inside.touched.items c.put.new.items.items c.self.inside.fresh.items c.put-in-New-2.new.items.items c.args.name c.in-New.list = record {
      place = subst (λ n. Updates labels_cmp c.self.inside.places.tree c.enter.new.self.tree c.args.name (Some n)) c.self.invariant.1.same new.1.0;
      list = c.put-in-New.ensures ∙ ap (λ ls. ls ++ c.in-New.list ∷ []) c.reserve.ensures.items;
      note = c.put.ensures ∙ ap (λ ts. ts ++ c.len.result ∷ []) c.reserve-2.ensures.items ∙ ap (λ n. c.self.inside.touched.items ++ n ∷ []) len;
      name = c.put-in-New-2.ensures ∙ ap (λ ns. ns ++ c.in_ok-share.share ∷ []) c.reserve-3.ensures.items ∙ ap (λ n. c.self.inside.fresh.items ++ n ∷ []) c.in_ok-share.ensures;
    } in
    held_in c.args.name (points c.args.samples.now) refl c.self.invariant.0 (ap (λ s. s.staged) c.self.view_is) new.0 add staged.kept
    (accepted_has c.args.samples.now c.in-New.list.staged (is_some (length c.args.samples.now) c.requires.some) staged.staged) staged.staged
    (omega (arith, few, length_points c.args.samples.now, c.requires.room, c.self.invariant.0.counted_staged, ap (λ s. total s.staged) c.self.view_is))

pub invariant_of-self-in-New : goal.invariant_of-self-in-New
invariant_of-self-in-New c =
    let new = subst (λ e. Enters e c.self.inside.places.tree c.enter.new.self.tree c.args.name (length c.self.inside.places.names.items) (points c.args.samples.now)) c.in-New.is c.in_ok-place.ensures.ok in
    let staged = new.1.1 in
    let names = subst (λ e. c.enter.new.self.names.items ≡ names_after e c.self.inside.places.names.items c.args.name) c.in-New.is c.in_ok-place.ensures.names in (
      subst (λ (m : ℕ). IsSound c.enter.new.self.tree c.put-in-New.new.items.items c.put.new.items.items c.put-in-New-2.new.items.items c.self.inside.count m) (ap (λ n. c.self.inside.staged_count + n) (sym c.staged_len.ensures)) (after_new c).sound,
      listed_in c.in-New.list c.self.invariant.1 (c.put-in-New.ensures ∙ ap (λ ls. ls ++ c.in-New.list ∷ []) c.reserve.ensures.items)
          (omega (arith, ap length names, length_push c.self.inside.places.names.items c.args.name)) staged.gone,
    )

pub returns-in-New-clause-kept : goal.returns-in-New-clause-kept
returns-in-New-clause-kept c = (after_new c).kept ∙ ap (λ s. s.kept) c.self.view_is

pub returns-in-New-clause-staged : goal.returns-in-New-clause-staged
returns-in-New-clause-staged c = (after_new c).gives

pub returns-in-Had-clause-placed : goal.returns-in-Had-clause-placed
returns-in-Had-clause-placed c =
    let names = subst (λ e. c.enter.new.self.names.items ≡ names_after e c.self.inside.places.names.items c.args.name) c.in-Had.is c.in_ok-place.ensures.names in
    ap (λ ns. settled_names ns c.reserve-3.new.self.items) names ∙ ap (settled_names c.self.inside.places.names.items) c.reserve-3.ensures.items ∙ ap (λ s. s.placed) c.self.view_is

pub returns-in-New-clause-placed : goal.returns-in-New-clause-placed
returns-in-New-clause-placed c =
    let names = subst (λ e. c.enter.new.self.names.items ≡ names_after e c.self.inside.places.names.items c.args.name) c.in-New.is c.in_ok-place.ensures.names in
    let fresh = c.put-in-New-2.ensures ∙ ap (λ ns. ns ++ c.in_ok-share.share ∷ []) c.reserve-3.ensures.items in
    ap (λ ns. settled_names ns c.put-in-New-2.new.items.items) names ∙ ap (settled_names (c.self.inside.places.names.items ++ c.args.name ∷ [])) fresh
    ∙ settled-push c.self.inside.places.names.items c.self.inside.fresh.items c.args.name c.in_ok-share.share ∙ ap (λ s. s.placed) c.self.view_is
