use Rattle.std.proofs.Common.{sym, subst}
use Rattle.rw_text.specs.Addresses.{IsPort}
use Rattle.rw_text.proofs.AddressLemmas.{no_colon, no_address}
use Rattle.rw_text.proofs.address.read_address.Goals as goal

pub returns-in_default : goal.returns-in_default
returns-in_default c = no_colon c.args.text.now c.in_default.ensures.cases

pub returns-in_default-port_of : goal.returns-in_default-port_of
returns-in_default-port_of c = no_address c.args.text.now c.in-Some.host.now c.in-Some.digits.now c.in-Some.ensures.cases
    (λ port p. c.in_default-port_of.ensures port (subst (λ d. IsPort d port) (sym c.as_bytes.ensures.value) p))
