use Rattle.std.proofs.Common.{◌≡◌, ◌<◌, ◌++◌, ◌∷◌, [], List, length, map, sym, ap, ◌∙◌, subst, ℤ, arith, rules}
use Rattle.std.proofs.lemmas.List.{length_push, map-append}
use Rattle.std.proofs.lemmas.Int.{to_z-of_z}
use Rattle.std.specs.Int.{w64}
use Rattle.std.specs.Prelude.{FitsSigned}
use Rattle.rw_plain_queue.specs.declared.item.Item.{Item}
use Rattle.rw_plain_queue.specs.declared.item.Item.TheVariants as item
use Rattle.rw_batch.specs.Batches.{Building, MayBeTaken, IsStretch}
use Rattle.rw_batch.specs.Grouping.{LabelledSample}
use Rattle.rw_batch.specs.inner.Kept.{Fielded, Rowed}
use Rattle.rw_batch.proofs.StretchLemmas.{stretch-push}
use Rattle.rw_batch.proofs.builder.Builder.take.Goals as goal

pub invariant_of-self : goal.invariant_of-self
invariant_of-self c =
    let follows : MayBeTaken c.args.self.now.places (item.Sample c.in-Sample.place c.in-Sample.t c.in-Sample.word c.in-Sample.labels) =
    (let P : Item → Type 0 = λ x. MayBeTaken c.args.self.now.places x in subst P c.in-Sample.is c.requires.sample) in
    let before : MayBeTaken c.self.inside.places.items (item.Sample c.in-Sample.place c.in-Sample.t c.in-Sample.word c.in-Sample.labels) =
    (let P : Building → Type 0 = λ b. MayBeTaken b.places (item.Sample c.in-Sample.place c.in-Sample.t c.in-Sample.word c.in-Sample.labels) in subst P (sym c.self.view_is) follows) in
    let room : length c.self.inside.rows.samples < c.self.inside.batch = (let P : Building → Type 0 = λ b. length b.samples < b.batch in subst P (sym c.self.view_is) c.requires.room) in
    let fits : FitsSigned w64 c.in-Sample.t = search rules in
    let x : LabelledSample = record { labels = c.in-Sample.labels.value; sample = (c.in-Sample.word, c.in-Sample.t) } in
    let rows : c.push.new.self ≡ record { room = c.self.inside.rows.room; samples = c.self.inside.rows.samples ++ x ∷ [] } =
    c.push.ensures ∙ ap (λ (z : ℤ). record { room = c.self.inside.rows.room; samples = c.self.inside.rows.samples ++ record { labels = c.in-Sample.labels.value; sample = (c.in-Sample.word, z) } ∷ [] }) (to_z-of_z w64 c.in-Sample.t fits) in
    let fields : c.push-bytes.new.self ≡ record { room = c.self.inside.fields.room; samples = c.self.inside.fields.samples ++ x.sample ∷ [] } =
    c.push-bytes.ensures.fields ∙ ap (λ (z : ℤ). record { room = c.self.inside.fields.room; samples = c.self.inside.fields.samples ++ (c.in-Sample.word, z) ∷ [] }) (to_z-of_z w64 c.in-Sample.t fits) in
    let samples : c.push.new.self.samples ≡ c.self.inside.rows.samples ++ x ∷ [] = ap (λ (r : Rowed). r.samples) rows in
    let more = ap length samples ∙ length_push c.self.inside.rows.samples x in
    record {
      alike = omega (arith, ap length c.push_reserved.ensures.items, length_push c.self.inside.places.items c.in-Sample.place, c.self.invariant.alike, more);
      within = omega (arith, more, room);
      place_room = omega (arith, c.self.invariant.place_room, c.push_reserved.ensures.capacity);
      field_room = ap (λ (f : Fielded). f.room) fields ∙ c.self.invariant.field_room;
      row_room = ap (λ (r : Rowed). r.room) rows ∙ c.self.invariant.row_room;
      same = ap (λ (f : Fielded). f.samples) fields ∙ ap (λ (ss : List _). ss ++ x.sample ∷ []) c.self.invariant.same
          ∙ sym (map-append (λ (y : LabelledSample). y.sample) c.self.inside.rows.samples (x ∷ [])) ∙ ap (map (λ (y : LabelledSample). y.sample)) (sym samples);
      stretch = subst IsStretch (sym c.push_reserved.ensures.items) (stretch-push c.self.inside.places.items c.in-Sample.place before c.self.invariant.stretch);
    }
