-- What every free schedule keeps, whoever answers and with what status.
use Rattle.std.specs.Prelude.{ℕ, List, [], ◌∷◌, ◌++◌, slice_get}
use Rattle.rw_machine.specs.Worlds.{Setup, World, start, is_over}
use Rattle.rw_machine.specs.Steps.{happens, turned_away}
use Rattle.rw_machine.specs.Promises.{HasOneClassEach, CountsFiltered, NamesExactly, refused_in, HasOneBatchEachId, CarriesEachBatch, SendsSameBytes, HasShardLists}
use Rattle.rw_simulation.specs.Freely.{Happening, Of, Answered, run_freely}

-- the machine after a free schedule
abbrev pub world_of : Setup → List Happening → World
world_of c hs = run_freely c hs (start c)

-- all that a free schedule refuses: the replies that the sender takes refuse, and not the answers
-- that somebody makes
abbrev pub refused_freely : Setup → List Happening → World → List (ℕ × ℕ)
refused_freely c [] w = []
refused_freely c (Of e ∷ hs) w = refused_in w e (is_over w) ++ refused_freely c hs (happens c w e)
refused_freely c (Answered k status ∷ hs) w = refused_freely c hs (turned_away w status (slice_get w.requests k))

-- Each placed sample is in one class, and the filtered ones are counted. A status is named exactly
-- if a reply with that status, which the sender took, refused a batch with the sample. Each id
-- has one batch, which each request with it carries as the same bytes, and the shards keep their
-- lists.
pub record KeepsLaws (c : Setup) (hs : List Happening) : Type 0 where
  pub classes : HasOneClassEach c (world_of c hs)
  pub filtered : CountsFiltered c (world_of c hs)
  pub refusals : NamesExactly (world_of c hs).names (refused_freely c hs (start c))
  pub one_batch : HasOneBatchEachId (world_of c hs)
  pub bytes : CarriesEachBatch c (world_of c hs)
  pub again : SendsSameBytes (world_of c hs)
  pub lists : HasShardLists c (world_of c hs)
