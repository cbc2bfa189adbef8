use Rattle.std.proofs.lemmas.Str.{IsUtf8-string_bytes, is_utf8-from_IsUtf8}
use Rattle.rw_settings.proofs.ReadBack.{text_read}
use Rattle.rw_settings.proofs.print.print_settings.Goals as goal

pub returns-clause-reads_back : goal.returns-clause-reads_back
returns-clause-reads_back c =
    let text = c.in_ok-text_of.ensures in
    let read = c.in_ok-settings.ensures.ok in
    let utf8 = rw text at (is_utf8-from_IsUtf8 _ (IsUtf8-string_bytes c.in_ok-text_of.field-0)) in
    rw (text, read) (text_read c.args.text.now c.in_ok-settings.settings read utf8)
