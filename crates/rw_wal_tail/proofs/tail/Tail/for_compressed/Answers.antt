use Rattle.std.proofs.Common.{◌≡◌, ◌∙◌, ◌++◌, ◌∷◌, [], List, ap, map, refl, arith, true}
use Rattle.rw_wal_format.specs.Pieces.{may_compress}
use Rattle.rw_wal_tail.specs.declared.piece.Told.{Told}
use Rattle.rw_wal_tail.specs.declared.piece.Told.TheVariants as told
use Rattle.rw_wal_tail.specs.Fed.{told_of}
use Rattle.rw_wal_tail.proofs.FedLaws.{follows_start}
use Rattle.rw_wal_tail.proofs.tail.Tail.for_compressed.Goals as goal

pub invariant_of-result : goal.invariant_of-result
invariant_of-result c =
    let all : map told_of c.push.new.self ≡ may_compress ∷ [] = ap (map told_of) (c.push.ensures ∙ ap (λ (l : List Told). l ++ told.MayCompress ∷ []) c.new-pieces.ensures) in
    rw (all, c.new.ensures) (record { follows = follows_start true c.in_ok-reader.reader c.in_ok-reader.ensures.reader c.in_ok-reader.ensures.unfed; counted = refl; bound = omega arith; stuck = tt; kept = c.in_ok-reader.ensures.kept })
