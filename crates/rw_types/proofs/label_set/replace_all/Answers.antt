use Rattle.std.proofs.Common.{◌≡◌, ◌++◌, List, map, take, drop, length, ◌-◌, sym, ap, ◌∙◌}
use Rattle.std.proofs.Math.Seq.{take-length}
use Rattle.std.proofs.lemmas.List.{map-append, take-append-drop, length-drop}
use Rattle.std.proofs.lemmas.Result.{on_ok_weaker}
use Rattle.rw_types.specs.Labels.{text_label}
use Rattle.rw_types.proofs.label_set.replace_all.Goals as goal

-- a front and the rest after it are the whole
whole : {A B : Type 0} (f : A → B) (xs : List A) (i n : _) (front : List B) → i ≡ n → front ≡ map f (take n xs) → front ++ map f (take (length xs - i) (drop i xs)) ≡ map f xs
whole f xs i n front same e =
    ap (λ k. front ++ map f (take k (drop i xs))) (sym (length-drop i xs)) ∙ ap (λ ys. front ++ map f ys) (take-length (drop i xs))
    ∙ ap (λ ys. ys ++ map f (drop i xs)) e ∙ ap (λ k. map f (take n xs) ++ map f (drop k xs)) same
    ∙ sym (map-append f (take n xs) (drop n xs)) ∙ ap (map f) (take-append-drop n xs)

pub returns : goal.returns
returns c =
    on_ok_weaker c.append_copies.result
    (λ e. e ∙ whole text_label c.args.new.now c.len.result _ _ c.len.ensures (c.in_ok-overwrite_first.ensures.ok))
    c.append_copies.ensures
