use Rattle.std.proofs.Common.{◌≡◌, [], ◌∷◌, ◌++◌, false, codes, string_bytes, sym, ap, ◌∙◌, append_assoc, arith}
use Rattle.std.proofs.lemmas.List.Folds.{concat-append}
use Rattle.std.specs.List.{concat}
use Rattle.rw_settings.specs.Keys.{send_keys, snappy, headers, bearer_token_file, external_labels}
use Rattle.rw_settings.specs.Sending.{send_values}
use Rattle.rw_settings.specs.SettingsText.{lines_of, send_text}
use Rattle.rw_settings.specs.Values.{switch_values}
use Rattle.rw_settings.proofs.KeyLemmas.{switch_lines}
use Rattle.rw_settings.proofs.send_table.push_send.Goals as goal

pub push_lines-requires : goal.push_lines-requires
push_lines-requires c = rw c.send_keys.ensures (omega arith)

pub returns : goal.returns
unfolding send_text
returns c =
    let old = string_bytes c.args.out.now in
    let send = c.args.send.now in
    let front = lines_of send_keys (send_values (record send { snappy = false })) in
    let back = lines_of (snappy ∷ headers ∷ bearer_token_file ∷ external_labels ∷ []) (switch_values send.snappy) in
    let whole : old ++ (codes "[send]\n" ++ concat (front ++ back)) ≡ ((old ++ codes "[send]\n") ++ concat front) ++ concat back =
    ap (λ t. old ++ (codes "[send]\n" ++ t)) (concat-append front back) ∙ sym (append_assoc old (codes "[send]\n") (concat front ++ concat back))
    ∙ sym (append_assoc (old ++ codes "[send]\n") (concat front) (concat back)) in
    rw (
      c.in_ok-push_switch.ensures,
      switch_lines send.snappy,
      c.in_ok-push_lines.ensures,
      c.send_keys.ensures,
      c.in_ok-push_str.ensures.bytes,
      c.as_str.ensures.text,
      c.as_str-2.ensures.text,
      c.get.ensures.number,
      c.get-2.ensures.number,
      c.get-3.ensures.number,
      c.get-4.ensures.number,
      c.get-5.ensures.number,
      c.get-6.ensures.number,
      c.get-7.ensures.number,
      c.get-8.ensures.number,
      c.names_text.ensures,
    ) (sym whole)
