use Rattle.rw_sender.proofs.SizeLemmas.{message_within}
use Rattle.rw_sender.proofs.bytes_laws.body_within_its_count.Goals as goal

pub returns : goal.returns
returns c = message_within c.message_grows.ensures.message c.sample_field_is_short.ensures
