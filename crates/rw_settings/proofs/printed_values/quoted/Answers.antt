use Rattle.std.proofs.Common.{◌++◌, IsOk, string_bytes, ap, ◌∙◌, rules}
use Rattle.std.proofs.lemmas.Fmt.{contents_after_writes}
use Rattle.toml_writer.specs.Text.{string_text}
use Rattle.rw_settings.proofs.printed_values.quoted.Goals as goal

pub returns-in-Ok : goal.returns-in-Ok
returns-in-Ok c =
    let ok : IsOk c.write_string.result = search rules in
    let written = c.write_string.ensures c.new-f.ensures.plain ok in
    ap string_bytes c.into_inner.ensures
    ∙ contents_after_writes _ string_bytes (λ w l v t. t) _ _ _ written.wrote
    ∙ ap (λ l. l ++ string_text c.args.text.now) (ap string_bytes c.new-f.ensures.writer ∙ c.new.ensures.bytes)
