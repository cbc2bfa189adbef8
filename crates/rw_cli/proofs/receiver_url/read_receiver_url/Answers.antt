use Rattle.std.proofs.lemmas.Result.{IfOk-weaker}
use Rattle.rw_cli.proofs.receiver_url.read_receiver_url.Goals as goal

pub returns : goal.returns
returns c = IfOk-weaker c.receiver_of.result _ _ (λ r names. (c.in_ok-uri.uri, c.in_ok-uri.ensures, c.in_ok-check_scheme.ensures, names)) c.receiver_of.ensures
