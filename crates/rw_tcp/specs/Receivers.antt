-- Where a transport sends, and what it records of that.
use Rattle.std.specs.Prelude.{ℕ, List}
use Rattle.std.specs.declared.net.socket_addr.SocketAddr.{SocketAddr}
use Rattle.rw_worker.specs.Transcript.{Exchange}

pub record Receiver : Type 0 where
  pub addresses : List SocketAddr
  pub timeout : ℕ  -- of an attempt, in nanoseconds

-- a transport to a receiver, and its exchanges so far
pub record TcpTransport : Type 0 where
  pub receiver : Receiver
  pub seen : List Exchange
