-- Texts are fed to a hash function as the labels that they are.
use Rattle.std.proofs.Common.{◌≡◌, ◌++◌, List, map, sym, ap₂, String}
use Rattle.std.specs.Prelude.{string_bytes}
use Rattle.std.specs.Hash as fed
use Rattle.std.specs.declared.alloc.Global.{Global}
use Rattle.std.proofs.lemmas.List.{length-map}
use Rattle.std.proofs.lemmas.List.Folds.{flat_map-map}
use Rattle.rw_types.specs.Hashing.{label_input, labels_input}
use Rattle.rw_types.specs.Labels.{text_label}

abbrev text_input : String Global × String Global → fed.HashWrites
text_input t = fed.str (string_bytes t.0) ++ fed.str (string_bytes t.1)

pub input_of_texts : (ts : List (String Global × String Global)) → fed.slice text_input ts ≡ labels_input (map text_label ts)
input_of_texts ts = ap₂ (λ n w. fed.usize n ++ w) (sym (length-map ts text_label)) (sym (flat_map-map label_input text_label ts))
