-- What a request asks for.
use Rattle.std.specs.Prelude.{◌≡◌, ℕ, List, codes}
use Rattle.httparse.specs.Grammar.{RequestHead, ReadsRequest}

-- the bytes begin with the head of a request of this method and this target
pub record Asks (buf method target : List ℕ) : Type 0 where
  pub head : RequestHead
  pub rest : List ℕ
  pub reads : ReadsRequest buf head rest
  pub method_is : head.method ≡ method
  pub target_is : head.target ≡ target

abbrev pub AsksForPage : List ℕ → Type 0
AsksForPage buf = Asks buf (codes "GET") (codes "/metrics")

-- for the page for people
abbrev pub AsksForHtml : List ℕ → Type 0
AsksForHtml buf = Asks buf (codes "GET") (codes "/")
