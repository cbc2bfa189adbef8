use Rattle.std.proofs.Common.{◌≡◌, [], ◌∷◌, ◌++◌, false, codes, string_bytes, sym, ap, ◌∙◌, append_assoc, arith}
use Rattle.std.proofs.lemmas.List.Folds.{concat-append}
use Rattle.std.specs.List.{concat}
use Rattle.rw_settings.specs.Keys.{receive_keys, snappy}
use Rattle.rw_settings.specs.Receiving.{receive_values}
use Rattle.rw_settings.specs.SettingsText.{lines_of, receive_text}
use Rattle.rw_settings.specs.Values.{switch_values}
use Rattle.rw_settings.proofs.receive_table.push_receive.Goals as goal

pub push_lines-requires : goal.push_lines-requires
push_lines-requires c = rw c.receive_keys.ensures (omega arith)

pub returns : goal.returns
unfolding receive_text
returns c =
    let old = string_bytes c.args.out.now in
    let limits = c.args.limits.now in
    let front = lines_of receive_keys (receive_values (record limits { snappy = false })) in
    let back = lines_of (snappy ∷ []) (switch_values limits.snappy) in
    let whole : old ++ (codes "\n[receive]\n" ++ concat (front ++ back)) ≡ ((old ++ codes "\n[receive]\n") ++ concat front) ++ concat back =
    ap (λ t. old ++ (codes "\n[receive]\n" ++ t)) (concat-append front back) ∙ sym (append_assoc old (codes "\n[receive]\n") (concat front ++ concat back))
    ∙ sym (append_assoc (old ++ codes "\n[receive]\n") (concat front) (concat back)) in
    rw (
      c.in_ok-push_switch.ensures,
      c.in_ok-push_lines.ensures,
      c.receive_keys.ensures,
      c.in_ok-push_str.ensures.bytes,
      c.as_str.ensures.text,
      c.get.ensures.number,
      c.get-2.ensures.number,
      c.get-3.ensures.number,
      c.get-4.ensures.number,
      c.names_text.ensures,
    ) (sym whole)
