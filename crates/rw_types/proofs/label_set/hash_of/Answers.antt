use Rattle.std.proofs.Common.{◌∙◌, ap, ap₂}
use Rattle.std.specs.List.{fold}
use Rattle.std.specs.Hash.FoldHasher as folding
use Rattle.rw_types.specs.Hashing.{labels_hash}
use Rattle.rw_types.proofs.HashLemmas.{input_of_texts}
use Rattle.rw_types.proofs.label_set.hash_of.Goals as goal

pub returns : goal.returns
unfolding labels_hash
returns c = c.finish.ensures ∙ ap folding.finish (c.hash.ensures ∙ ap₂ (fold folding.write) c.default-state.ensures (input_of_texts c.args.labels.now))
