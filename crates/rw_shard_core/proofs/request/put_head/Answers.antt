use Rattle.rw_shard_core.proofs.RequestLemmas.{parts_of_head}
use Rattle.rw_shard_core.proofs.request.put_head.Goals as goal

pub returns : goal.returns
returns c =
    rw (
      c.in_ok-append-7.ensures,
      c.in_ok-append-6.ensures,
      c.in_ok-append-5.ensures,
      c.in_ok-append-4.ensures,
      c.in_ok-append-3.ensures,
      c.in_ok-append-2.ensures,
      c.in_ok-append.ensures,
      c.fields_in.ensures,
    ) (parts_of_head c.args.snappy c.args.bytes.now.items c.args.host.now c.args.path.now c.args.digits.now)
