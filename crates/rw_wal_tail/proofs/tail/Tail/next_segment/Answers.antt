use Rattle.std.proofs.Common.{◌≡◌, ◌∙◌, ◌++◌, ◌∷◌, [], ap, map}
use Rattle.std.proofs.lemmas.List.{map-append}
use Rattle.rw_wal_format.specs.Pieces.{next_segment}
use Rattle.rw_wal_tail.specs.declared.piece.Told.TheVariants as told
use Rattle.rw_wal_tail.specs.Fed.{Fed, told_of}
use Rattle.rw_wal_tail.proofs.FedLaws.{goes_on, follows_taken, still_stuck}
use Rattle.rw_wal_tail.proofs.KeptLaws.{kept_next}
use Rattle.rw_wal_tail.proofs.TakingLemmas.{stays_taken}
use Rattle.rw_wal_tail.proofs.tail.Tail.next_segment.Goals as goal

pub returns-clause-goes_on : goal.returns-clause-goes_on
returns-clause-goes_on c =
    goes_on c.args.self.now.pieces _ (next_segment ∷ [])
    (ap (map told_of) c.push.ensures ∙ map-append told_of c.self.inside.pieces (told.NextSegment ∷ []) ∙ ap (λ (t : Fed). t.pieces ++ next_segment ∷ []) c.self.view_is)

pub invariant_of-self : goal.invariant_of-self
invariant_of-self c =
    let i = c.self.invariant in
    let f = follows_taken _ c.self.inside.given c.self.inside.reader c.next_segment.new.self i.follows next_segment tt c.next_segment.ensures.takes in
    let all : map told_of c.push.new.self ≡ map told_of c.self.inside.pieces ++ next_segment ∷ [] = ap (map told_of) c.push.ensures ∙ map-append told_of c.self.inside.pieces (told.NextSegment ∷ []) in
    rw all (record {
      follows = f;
      counted = i.counted;
      bound = i.bound;
      stuck = still_stuck c.self.inside.reader c.next_segment.new.self c.self.inside.told c.next_segment.ensures.fault c.next_segment.ensures.ready i.stuck;
      kept = kept_next (map told_of c.self.inside.pieces) c.next_segment.new.self (c.next_segment.ensures.kept _ i.kept);
    })

pub returns-clause-taken : goal.returns-clause-taken
returns-clause-taken c taken h = stays_taken c.args.self.now _ taken (ap (λ (t : Fed). t.given) c.self.view_is) (returns-clause-goes_on c) h
