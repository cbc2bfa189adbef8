use Rattle.rw_send.proofs.AnswerLemmas.{IfOk-always}
use Rattle.rw_send.proofs.connect.TcpConnectConnect.TheImpl.Goals as goal

pub transport-tells : goal.transport-tells
transport-tells g x y c = record { unused = c.ensures.unused; made = IfOk-always c.result _ (λ r. tt) }
