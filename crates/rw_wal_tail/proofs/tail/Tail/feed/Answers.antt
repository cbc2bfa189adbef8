use Rattle.std.proofs.Common.{◌≡◌, ◌∙◌, ◌++◌, ◌∷◌, [], ℕ, List, ap, map}
use Rattle.std.proofs.lemmas.List.{map-append}
use Rattle.rw_wal_format.specs.Pieces.{bytes}
use Rattle.rw_wal_tail.specs.declared.piece.Told.TheVariants as told
use Rattle.rw_wal_tail.specs.Fed.{Fed, told_of}
use Rattle.rw_wal_tail.proofs.FedLaws.{goes_on, follows_taken, still_stuck, cuts_do_not_matter}
use Rattle.rw_wal_tail.proofs.KeptLaws.{kept_bytes, tail_same}
use Rattle.rw_wal_tail.proofs.TakingLemmas.{stays_taken}
use Rattle.rw_wal_tail.proofs.tail.Tail.feed.Goals as goal

pub returns-clause-goes_on : goal.returns-clause-goes_on
returns-clause-goes_on c =
    goes_on c.args.self.now.pieces _ (bytes c.args.piece.now ∷ [])
    (ap (map told_of) c.push.ensures ∙ map-append told_of c.self.inside.pieces (told.Bytes c.of.result ∷ []) ∙ ap (λ (b : List ℕ). map told_of c.self.inside.pieces ++ bytes b ∷ []) c.of.ensures ∙ ap (λ (t : Fed). t.pieces ++ bytes c.args.piece.now ∷ []) c.self.view_is)

pub returns-clause-cut_anywhere : goal.returns-clause-cut_anywhere
returns-clause-cut_anywhere c =
    cuts_do_not_matter c.args.self.now.pieces _ c.args.piece.now
    (ap (map told_of) c.push.ensures ∙ map-append told_of c.self.inside.pieces (told.Bytes c.of.result ∷ []) ∙ ap (λ (b : List ℕ). map told_of c.self.inside.pieces ++ bytes b ∷ []) c.of.ensures ∙ ap (λ (t : Fed). t.pieces ++ bytes c.args.piece.now ∷ []) c.self.view_is)

pub invariant_of-self-2 : goal.invariant_of-self-2
invariant_of-self-2 c =
    let i = c.self.invariant in
    let f = follows_taken _ c.self.inside.given c.self.inside.reader c.feed.new.self i.follows (bytes c.args.piece.now) tt c.in_ok-feed.ensures.ok in
    let all : map told_of c.push.new.self ≡ map told_of c.self.inside.pieces ++ bytes c.args.piece.now ∷ [] =
    ap (map told_of) c.push.ensures ∙ map-append told_of c.self.inside.pieces (told.Bytes c.of.result ∷ []) ∙ ap (λ (b : List ℕ). map told_of c.self.inside.pieces ++ bytes b ∷ []) c.of.ensures in
    rw all (record {
      follows = f;
      counted = i.counted;
      bound = i.bound;
      stuck = still_stuck c.self.inside.reader c.feed.new.self c.self.inside.told c.in_ok-feed.ensures.fault c.in_ok-feed.ensures.ready i.stuck;
      kept = kept_bytes (map told_of c.self.inside.pieces) c.args.piece.now c.feed.new.self (c.in_ok-feed.ensures.kept _ i.kept);
    })

pub invariant_of-self : goal.invariant_of-self
invariant_of-self c =
    tail_same c.self.inside.reader c.feed.new.self _ c.self.inside.given c.self.inside.count c.self.inside.told c.self.inside.told c.self.invariant c.in_err-feed.ensures.err (c.in_err-feed.ensures.kept _ c.self.invariant.kept)
    (still_stuck c.self.inside.reader c.feed.new.self c.self.inside.told c.in_err-feed.ensures.fault c.in_err-feed.ensures.ready c.self.invariant.stuck)

pub returns-clause-taken : goal.returns-clause-taken
returns-clause-taken c taken h = stays_taken c.args.self.now _ taken (ap (λ (t : Fed). t.given) c.self.view_is) (returns-clause-goes_on c) h
