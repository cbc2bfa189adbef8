use Rattle.rw_text.proofs.AddressLemmas.{address_one}
use Rattle.rw_text.proofs.address.address_is_one.Goals as goal

pub returns : goal.returns
returns c = address_one
