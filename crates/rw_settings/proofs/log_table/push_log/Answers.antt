use Rattle.std.proofs.Common.{rules, ◌≡◌, [], ◌∷◌, ◌++◌, true, codes, string_bytes, sym, append_assoc}
use Rattle.std.specs.List.{concat}
use Rattle.rw_settings.specs.Keys.{compression}
use Rattle.rw_settings.specs.Values.{switch_values}
use Rattle.rw_settings.specs.SettingsText.{lines_of, log_text}
use Rattle.rw_settings.proofs.log_table.push_log.Goals as goal

pub returns : goal.returns
unfolding log_text
returns c =
    let old = string_bytes c.args.out.now in
    let back = lines_of (compression ∷ []) (switch_values true) in
    let on : c.args.may_compress ≡ true = search rules in
    let whole : old ++ (codes "\n[log]\n" ++ concat back) ≡ (old ++ codes "\n[log]\n") ++ concat back = sym (append_assoc old (codes "\n[log]\n") (concat back)) in
    rw (c.in_ok-push_switch.ensures, c.in_ok-push_str.ensures.bytes, on) (sym whole)
