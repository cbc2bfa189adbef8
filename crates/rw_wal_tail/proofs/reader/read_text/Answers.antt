use Rattle.std.proofs.Common.{◌≡◌, ◌∙◌, List, [], ◌∷◌, ◌++◌, true, false, Some, cond, length, ap, sym, inl, arith, append-nil}
use Rattle.rw_wal_format.specs.Records.{is_skipped}
use Rattle.rw_wal_format.specs.Skipped.{skips_of, skipped_type}
use Rattle.rw_wal_format.specs.declared.skipped_type.SkippedType.{SkippedType}
use Rattle.rw_wal_tail.proofs.FormLaws.{skipped_empty, lone_empty, has_entries}
use Rattle.rw_wal_tail.proofs.reader.read_text.Goals as goal

pub returns-then-is_skipped-clause-ok : goal.returns-then-is_skipped-clause-ok
returns-then-is_skipped-clause-ok c =
    let s : is_skipped c.args.bytes.now ≡ true = sym c.is_skipped.ensures ∙ c.if-is_skipped.true in
    let n : skips_of c.args.bytes.now ≡ skipped_type c.args.bytes.now ∷ [] = ap (λ b. cond b (skipped_type c.args.bytes.now ∷ []) []) s in
    (skipped_empty c.args.bytes.now s ∙ ap Some (sym c.clear.ensures.items), c.push.ensures ∙ ap (λ (t : SkippedType). c.args.passed.now ++ t ∷ []) c.of.ensures ∙ ap (λ (ts : List SkippedType). c.args.passed.now ++ ts) (sym n))

pub returns-then-bytes-eq1-clause-ok : goal.returns-then-bytes-eq1-clause-ok
returns-then-bytes-eq1-clause-ok c =
    let s : is_skipped c.args.bytes.now ≡ false = sym c.is_skipped.ensures ∙ c.if-is_skipped.false in
    let n : skips_of c.args.bytes.now ≡ [] = ap (λ b. cond b (skipped_type c.args.bytes.now ∷ []) []) s in
    let l : length c.args.bytes.now ≡ 1 = omega (arith, c.if-bytes-eq1.true) in
    (lone_empty c.args.bytes.now l ∙ ap Some (sym c.clear.ensures.items), sym (append-nil c.args.passed.now) ∙ ap (λ (ts : List SkippedType). c.args.passed.now ++ ts) (sym n))

pub returns-in-Err-clause-certain : goal.returns-in-Err-clause-certain
returns-in-Err-clause-certain c =
    let s : is_skipped c.args.bytes.now ≡ false = sym c.is_skipped.ensures ∙ c.if-is_skipped.false in
    inl (has_entries c.args.bytes.now s (λ e. omega (arith, e, c.if-bytes-eq1.false)) (sym c.is_record.ensures ∙ c.if-not-is_record.false))
