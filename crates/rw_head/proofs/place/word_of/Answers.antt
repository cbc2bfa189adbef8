use Rattle.std.proofs.Common.{◌≡◌, ◌∙◌, ap, rules}
use Rattle.std.specs.Int.{w64, from_le_bytes}
use Rattle.std.proofs.lemmas.Nat.{le_bytes_8}
use Rattle.rw_head.proofs.place.word_of.Goals as goal

pub returns : goal.returns
returns c =
    let same : c.in-Ok.word ≡ c.args.bytes.now = search rules in
    le_bytes_8 c.args.bytes.now c.from_le_bytes.result (search rules) (search rules) (c.from_le_bytes.ensures ∙ ap (from_le_bytes w64) same)
