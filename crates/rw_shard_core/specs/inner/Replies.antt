-- Inner definitions beside those of Replies.antt: only invariants, private functions and
-- proofs use them.
use Rattle.std.specs.Prelude.{◌≡◌, ℕ, List, length, drop}
use Rattle.httparse.specs.Grammar.{ResponseHead, print_response}
use Rattle.rw_shard_core.specs.declared.replies.Front.{Front}
use Rattle.rw_shard_core.specs.declared.replies.Front.TheVariants.{Informational, Decided}
use Rattle.rw_shard_core.specs.Replies.{BeginsWith, IsInformational, ReadsReply}

-- what is at the front: an informational head of this many bytes, or what decides
abbrev pub Found : ℕ → List ℕ → Front → Type 0
Found room text (Informational len) =
    (head : ResponseHead) × BeginsWith room text head (drop len text) × IsInformational head × (len ≡ length (print_response head))
Found room text (Decided read) = ReadsReply room text read
