use Rattle.rw_shard_core.specs.Replies.{ReadsReply}
use Rattle.rw_shard_core.specs.declared.replies.ReplyRead.{ReplyRead}
use Rattle.rw_shard_core.proofs.replies.read_reply.Given as goal

-- what the rest says, the whole says
abbrev pub invariant-loop-len : goal.invariant-loop-len
invariant-loop-len l = (read : ReplyRead) → ReadsReply l.room l.rest read → ReadsReply 8192 l.text read

abbrev pub decreases-loop-len : goal.decreases-loop-len
decreases-loop-len l = l.room
