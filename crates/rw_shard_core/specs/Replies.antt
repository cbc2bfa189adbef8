-- The status of a reply (RFC 9110, section 15.2; RFC 9112, section 4): informational heads are
-- skipped.
use Rattle.std.specs.Prelude.{◌≡◌, ℕ, ◌-◌, ◌<◌, ◌≤◌, List, [], ◌∷◌, ◌++◌, length}
use Rattle.httparse.specs.Grammar.{ResponseHead, ReadsResponse, HasNoResponse, MayBecomeResponse, print_response, status_code}
use Rattle.rw_shard_core.specs.declared.replies.ReplyRead.{ReplyRead}
use Rattle.rw_shard_core.specs.declared.replies.ReplyRead.TheVariants.{Status, Partial, Bad}

-- the text is a head of at most this many bytes and 64 fields, and then the rest
pub record BeginsWith (room : ℕ) (text : List ℕ) (head : ResponseHead) (rest : List ℕ) : Type 0 where
  pub reads : ReadsResponse text head rest
  pub short : length (print_response head) ≤ room
  pub few : length head.fields ≤ 64

-- 1xx
abbrev pub IsInformational : ResponseHead → Type 0
IsInformational head = (100 ≤ status_code head) × (status_code head < 200)

-- these informational heads come first, and the fact is true of the room and the text that they
-- leave
abbrev pub FollowsHeads : (ℕ → List ℕ → Type 0) → ℕ → List ℕ → List ResponseHead → Type 0
FollowsHeads P room text [] = P room text
FollowsHeads P room text (head ∷ heads) =
    (rest : List ℕ) × BeginsWith room text head rest × IsInformational head
    × FollowsHeads P (room - length (print_response head)) rest heads

-- informational heads, if any, and then this
abbrev pub Passes : (ℕ → List ℕ → Type 0) → ℕ → List ℕ → Type 0
Passes P room text = (heads : List ResponseHead) × FollowsHeads P room text heads

-- a head of this status, which is the answer of the peer
abbrev pub IsAnswerOfStatus : ℕ → ℕ → List ℕ → Type 0
IsAnswerOfStatus status room text =
    (head : ResponseHead) × (rest : List ℕ) × BeginsWith room text head rest
    × (status ≡ status_code head) × (200 ≤ status) × (status < 1000)

-- a prefix of a head, for which there is room
abbrev pub EndsEarly : ℕ → List ℕ → Type 0
EndsEarly room text = HasNoResponse text × MayBecomeResponse text × (length text < room)

-- no reply comes here
abbrev pub HasNoReply : ℕ → List ℕ → Type 0
HasNoReply room text = (status : ℕ) → ¬ (Passes (IsAnswerOfStatus status) room text)

-- what the bytes that have come say, if the heads may take this many
abbrev pub ReadsReply : ℕ → List ℕ → ReplyRead → Type 0
ReadsReply room text (Status status) = Passes (IsAnswerOfStatus status) room text
ReadsReply room text Partial = Passes EndsEarly room text
ReadsReply room text Bad = (more : List ℕ) → HasNoReply room (text ++ more)
