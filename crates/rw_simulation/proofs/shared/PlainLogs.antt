-- A log to which no external labels are added is the one that is read.
use Rattle.std.proofs.Common.{◌≡◌, List, [], ◌∷◌, Option, refl, sym, ap, ◌∙◌}
use Rattle.rw_types.specs.Beginnings.{Begins}
use Rattle.rw_types.specs.declared.entry.Entry.{Entry}
use Rattle.rw_types.specs.declared.entry.Entry.TheVariants.{Def, Sample}
use Rattle.rw_external_labels.specs.External.{labelled}
use Rattle.rw_wal_format.specs.Pieces.{entries}
use Rattle.rw_wal_format.specs.declared.tail_fault.TailFault.{TailFault}
use Rattle.rw_wal_tail.specs.Taking.{HasRead}
use Rattle.rw_sender.specs.Feeders.{Sorting, HasReadAll, log_of}

labelled-none : (es : List Entry) → labelled [] es ≡ es
labelled-none [] = refl
labelled-none (Def reference l ∷ es) = ap (λ xs. Def reference l ∷ xs) (labelled-none es)
labelled-none (Sample reference t word ∷ es) = ap (λ xs. Sample reference t word ∷ xs) (labelled-none es)

pub log-plain : (s : Sorting) → s.labels ≡ [] → log_of s ≡ entries s.pieces
log-plain s none = ap (λ ls. labelled ls (entries s.pieces)) none ∙ labelled-none (entries s.pieces)

pub read-plain : (s : Sorting) (found : Option TailFault) → s.labels ≡ [] → HasReadAll s found → HasRead s.pieces s.placed found
read-plain s found none h = record { all = h.all ∙ log-plain s none; fault_is = h.fault_is }

pub begins-plain : (s : Sorting) → s.labels ≡ [] → Begins s.placed (log_of s) → Begins s.placed (entries s.pieces)
begins-plain s none h = (h.0, sym (log-plain s none) ∙ h.1)
