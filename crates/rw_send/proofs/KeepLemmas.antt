-- The position that is kept, and a turn after it may have been kept.
use Rattle.std.proofs.Common.{◌≡◌, List, ℕ, Option, Some, Result, OnOk, OnErr, inl, inr, sym, ap, ◌∙◌, subst}
use Rattle.std.specs.Prelude.{◌⊎◌}
use Rattle.rw_resume.specs.Positions.{Names}
use Rattle.rw_sender.specs.Feeders.{Sorting}
use Rattle.rw_sender.specs.Shipping.{Shipping}
use Rattle.rw_follow.specs.Turns.{given_by}
use Rattle.rw_follow.specs.declared.follower.Turn.{Turn}
use Rattle.rw_send.specs.Drained.{IsSoon}
use Rattle.rw_send.specs.Segments.{IsShortLog, AreSoundButLast, meal_of}
use Rattle.rw_send.specs.declared.feed_error.FeedError.{FeedError}
use Rattle.rw_send.specs.declared.sharding.Sharding.{Sharding}
use Rattle.rw_send.specs.inner.Turns.{Reshards}
use Rattle.rw_send.proofs.EpochLemmas.{compared_resolved}
use Rattle.rw_send.proofs.EpochSizeLemmas.{sizes_on}
use Rattle.rw_send.proofs.FeedErrorLemmas.{count_so}
use Rattle.rw_send.proofs.TurnLemmas.{on_reshards}

pub either_named : {A : Type 0} (number : Option ℕ) (text : ℕ → ℕ → List ℕ) (n bytes all : ℕ) (found : Option (List ℕ)) → number ≡ Some n → bytes ≡ all → A ⊎ (found ≡ Some (text n bytes)) → A ⊎ Names number (λ n. text n all) found
either_named number text n bytes all found is e (inl before) = inl before
either_named number text n bytes all found is e (inr new) = inr (n, is, new ∙ ap (λ (b : ℕ). Some (text n b)) e)

module _ {T : Type 0} where
  pub soon_reshards : (t : Turn) (buf : List ℕ) (sharding next : Sharding) (old mid new : Shipping T) (r : Result Sharding FeedError) → IsSoon sharding old mid next → mid.fleet.config ≡ old.fleet.config
      → Reshards t buf next mid new r → Reshards t buf sharding old new r
  soon_reshards t buf sharding next old mid new r soon config goes =
      on_reshards t buf sharding next old mid new r soon.log soon.limit soon.compared config soon.shards soon.range soon.sizes goes
