use Rattle.std.proofs.Common.{◌≡◌, ◌++◌, ◌∷◌, [], ℕ, ℤ, length, take, Some, slice_get, subst, ap, sym, ◌∙◌, List, arith}
use Rattle.std.proofs.lemmas.List.{length_push}
use Rattle.std.proofs.lemmas.Int.{to_z-of_z}
use Rattle.std.specs.Int.{w64, cast_signed, cast_unsigned}
use Rattle.rw_types.proofs.shared.AllLemmas.{AllByRecursion-append}
use Rattle.rw_write_request.specs.Canon.{sample_field, sample_fields}
use Rattle.rw_write_request.specs.Message.{Sample}
use Rattle.rw_write_request.specs.Valid.{IsValidSample}
use Rattle.rw_write_request.proofs.shared.Spelled.{sample-field-length, same-sample-field}
use Rattle.rw_batch.specs.inner.Kept.{AreFields}
use Rattle.rw_batch.proofs.FieldLemmas.{fields_short, fields-push, marks_more}
use Rattle.rw_batch.proofs.fields.Fields.push.Goals as goal

pub put_sample_field-requires : goal.put_sample_field-requires
put_sample_field-requires c =
    let lt = rw (← c.self.view_is) at c.requires in
    record { room = omega (arith, lt, sample-field-length (c.args.word, cast_signed w64 (cast_unsigned w64 c.args.t)), fields_short c.self.inside.samples, ap length c.self.invariant.bytes_are, c.self.inside.bytes.ok.0, c.self.invariant.byte_room) }

pub invariant_of-self : goal.invariant_of-self
invariant_of-self c =
    let ss : List Sample = c.self.inside.samples in
    let s : Sample = (c.args.word, c.args.t) in
    let lt = rw (← c.self.view_is) at c.requires in
    let field = same-sample-field c.args.word c.args.t c.ranges.t in
    let bytes : c.put_sample_field.new.out.items ≡ sample_fields (ss ++ s ∷ []) =
    c.put_sample_field.ensures.items ∙ ap (λ (b : List _). b ++ sample_field (c.args.word, cast_signed w64 (cast_unsigned w64 c.args.t))) c.self.invariant.bytes_are
    ∙ ap (λ (b : List _). sample_fields ss ++ b) field ∙ sym (fields-push ss s) in
    let pushed : c.push.new.self ≡ ss ++ s ∷ [] = c.push.ensures ∙ ap (λ (z : ℤ). ss ++ (c.args.word, z) ∷ []) (to_z-of_z w64 c.args.t c.ranges.t) in
    let mark : c.len.result ≡ length (sample_fields (ss ++ s ∷ [])) = c.len.ensures ∙ c.put_sample_field.new.out.ok.0 ∙ ap length bytes in
    subst (AreFields c.self.inside.room c.put_sample_field.new.out c.push_reserved.new.self) (sym pushed)
    (record {
      most = c.self.invariant.most;
      within = omega (arith, lt, length_push ss s);
      bytes_are = bytes;
      byte_room = omega (arith, c.self.invariant.byte_room, c.put_sample_field.ensures.capacity);
      marked = omega (arith, ap length c.push_reserved.ensures.items, length_push c.self.inside.marks.items c.len.result, c.self.invariant.marked, length_push ss s);
      marks_are = subst (λ (ms : List ℕ). (k m : ℕ) → slice_get ms k ≡ Some m → m ≡ length (sample_fields (take k (ss ++ s ∷ [])))) (sym c.push_reserved.ensures.items)
          (marks_more ss s c.self.inside.marks.items c.len.result c.self.invariant.marked c.self.invariant.marks_are mark);
      mark_room = omega (arith, c.self.invariant.mark_room, c.push_reserved.ensures.capacity);
      valid = AllByRecursion-append IsValidSample ss (s ∷ []) c.self.invariant.valid ((c.put_sample_field.ensures.fits, c.ranges.t), tt);
    })
