-- What the heads of a reply say of its text.
use Rattle.std.proofs.Common.{◌≡◌, ℕ, ◌+◌, ◌-◌, ◌<◌, ◌≤◌, List, [], ◌∷◌, length, ap, ◌∙◌, arith, length-append}
use Rattle.httparse.specs.Grammar.{ResponseHead, print_response}
use Rattle.rw_shard_core.specs.Replies.{FollowsHeads, IsAnswerOfStatus, EndsEarly, ReadsReply}
use Rattle.rw_shard_core.specs.declared.replies.ReplyRead.TheVariants.{Status, Partial}

follows_status : (status room : ℕ) (text : List ℕ) (heads : List ResponseHead) → FollowsHeads (IsAnswerOfStatus status) room text heads → (200 ≤ status) × (status < 1000)
follows_status status room text [] r = (r.4, r.5)
follows_status status room text (head ∷ heads) r = follows_status status (room - length (print_response head)) r.0 heads r.3

-- the status of a reply has three digits
pub status_is_final : (status room : ℕ) (text : List ℕ) → ReadsReply room text (Status status) → (200 ≤ status) × (status < 1000)
status_is_final status room text r = follows_status status room text r.0 r.1

follows_short : (room : ℕ) (text : List ℕ) (heads : List ResponseHead) → FollowsHeads EndsEarly room text heads → length text < room
follows_short room text [] r = r.2
follows_short room text (head ∷ heads) r =
    let rest : length r.0 < room - length (print_response head) = follows_short (room - length (print_response head)) r.0 heads r.3 in
    let parts : length text ≡ length (print_response head) + length r.0 = ap length r.1.reads.1 ∙ length-append (print_response head) r.0 in
    omega (arith, rest, parts)

-- a reply that is not all there leaves room for more
pub partial_is_short : (room : ℕ) (text : List ℕ) → ReadsReply room text Partial → length text < room
partial_is_short room text r = follows_short room text r.0 r.1
