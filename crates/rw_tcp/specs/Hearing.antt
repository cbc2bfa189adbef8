-- What a reader says about the reply to a request.
use Rattle.std.specs.Prelude.{ℕ, List, Option}
use Rattle.std.specs.Io.KnownBytes.{Consumes}
use Rattle.rw_types.specs.declared.transfer.ReadFault.{ReadFault}
use Rattle.rw_types.specs.declared.transfer.ReadFault.TheVariants as reading
use Rattle.rw_shard_core.specs.Replies.{ReadsReply}
use Rattle.rw_shard_core.specs.declared.replies.ReplyRead.{ReplyRead}
use Rattle.rw_tcp.specs.declared.reply.NoReply.{NoReply}
use Rattle.rw_tcp.specs.declared.reply.NoReply.TheVariants as fault

-- a text was read, which says this of the reply
pub record Hears (left_before left_after : Option (List ℕ)) (read : ReplyRead) : Type 0 where
  pub text : List ℕ
  pub consumed : Consumes left_before left_after text
  pub says : ReadsReply 8192 text read

abbrev pub no_reply_of_reading : ReadFault → NoReply
no_reply_of_reading reading.OutOfMemory = fault.OutOfMemory
no_reply_of_reading reading.Failed = fault.Device
