-- The definitions of a log as a checkpoint of it.
use Rattle.std.proofs.Common.{◌≡◌, ℤ, Bool, false, cond, List, [], ◌∷◌, refl, sym, ap, ◌∙◌}
use Rattle.std.specs.List.{AllByRecursion}
use Rattle.rw_types.specs.Labels.{Labels}
use Rattle.rw_types.specs.declared.entry.Entry.{Entry}
use Rattle.rw_wal_format.specs.Series.{samples_after}
use Rattle.rw_head.specs.Order.{Point}
use Rattle.rw_kept_log.specs.Checkpoints.{definitions_of}
use Rattle.rw_kept_log.proofs.shared.CheckpointLemmas.{none_of_them, says_same}
use Rattle.rw_restarts.specs.Checkpoints.{IsCheckpointFor}
use Rattle.rw_restarts.specs.Owed.{pairs_of, is_from, those_from}
use Rattle.rw_restarts.specs.Resumed.{AreBefore}

none_from : (floor : ℤ) (ps : List Point) → AllByRecursion (λ (p : Point). is_from floor p ≡ false) ps → those_from floor ps ≡ []
none_from floor [] all = refl
none_from floor (p ∷ ps) all = ap (λ (b : Bool). cond b (p ∷ those_from floor ps) (those_from floor ps)) all.0 ∙ none_from floor ps all.1

pub is_checkpoint : (floor : ℤ) (before later : List Entry) (l : Labels) → AreBefore floor l before → IsCheckpointFor floor l before (definitions_of before) later
is_checkpoint floor before later l all = record {
  labels = says_same before later;
  samples = none_of_them before l ∙ sym (none_from floor (pairs_of (samples_after l [] before)) all);
}
