use Rattle.std.proofs.Common.{◌++◌, ◌∷◌, [], ap, ◌∙◌, map}
use Rattle.rw_head.specs.inner.Keys.{raised_byte}
use Rattle.rw_head.proofs.KeyLemmas.{raised_after}
use Rattle.rw_head.proofs.name.put_text.Goals as goal

pub returns : goal.returns
returns c =
    let text = c.in_ok-extend_from_slice.ensures.items ∙ ap (λ bs. c.args.key.now.items ++ bs) c.as_bytes.ensures.value in
    ap (map raised_byte) (c.in_ok-push.ensures.items ∙ ap (λ bs. bs ++ 255 ∷ []) text) ∙ raised_after c.args.key.now.items c.args.text.now c.utf8.text
