use Rattle.std.proofs.Common.{◌≡◌, ◌-◌, ◌++◌, ◌∷◌, [], List, ℕ, length, codes, refl}
use Rattle.rw_decimal.proofs.LineLemmas.{no_time, is_sample, cut_before}
use Rattle.rw_decimal.proofs.log_lines.split_sample.Goals as goal

pub returns-in_default-split_at_byte-2 : goal.returns-in_default-split_at_byte-2
returns-in_default-split_at_byte-2 c =
    no_time c.args.line.now c.in-Some.rest.now c.in-Some-split_at_byte.field-0-0.now c.in-Some-split_at_byte.more.now c.in-Some.ensures c.in-Some-split_at_byte.ensures.0 c.in-Some-split_at_byte.ensures.1
    c.in_default-split_at_byte-2.ensures

pub returns : goal.returns
returns c =
    let line = c.args.line.now in let number = c.in-Some-split_at_byte.field-0-0.now in let time = c.in-Some-split_at_byte-2.field-0-0.now in let value = c.in-Some-split_at_byte-2.value.now in
    let whole : List ℕ = codes "sample " ++ number ++ 32 ∷ (time ++ 32 ∷ []) in
    let parts : line ≡ whole ++ value =
    is_sample line c.in-Some.rest.now number c.in-Some-split_at_byte.more.now time value c.in-Some.ensures c.in-Some-split_at_byte.ensures.0 c.in-Some-split_at_byte.ensures.1 c.in-Some-split_at_byte-2.ensures.0
    c.in-Some-split_at_byte-2.ensures.1 in
    let cut = cut_before line whole value c.split_at.result.0.now c.split_at.result.1.now (length line - length value) parts refl c.split_at.ensures.front c.split_at.ensures.back in
    record {
      number = number;
      time = time;
      number_bare = c.in-Some-split_at_byte.ensures.1;
      time_bare = c.in-Some-split_at_byte-2.ensures.1;
      before = cut.0;
      parts = cut.1;
    }
