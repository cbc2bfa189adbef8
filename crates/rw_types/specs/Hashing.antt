-- What a label set feeds to a hash function: a hash of its texts that was made once.
use Rattle.std.specs.Prelude.{ℕ, ◌++◌}
use Rattle.std.specs.List.{fold}
use Rattle.std.specs.Hash as fed
use Rattle.std.specs.Hash.FoldHasher as folding
use Rattle.rw_types.specs.Labels.{Label, Labels}

-- each label as its name and its value
abbrev pub label_input : Label → fed.HashWrites
label_input l = fed.str l.0 ++ fed.str l.1

abbrev pub labels_input : Labels → fed.HashWrites
labels_input ls = fed.slice label_input ls

-- what std's own hasher of tables makes of all labels
unfoldable pub labels_hash : Labels → ℕ
labels_hash ls = folding.finish (fold folding.write folding.initial (labels_input ls))

abbrev pub hash_input : Labels → fed.HashWrites
hash_input ls = fed.u64 (labels_hash ls)
