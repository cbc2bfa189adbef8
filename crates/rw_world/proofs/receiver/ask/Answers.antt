use Rattle.std.proofs.Common.{◌≡◌, ◌∙◌, true, ap, sym, subst}
use Rattle.rw_types.specs.Requests.{is_host_name, is_request_path}
use Rattle.rw_endpoint.specs.Coding.{intake_of}
use Rattle.rw_shard_core.specs.Shard.{body_of}
use Rattle.rw_roundtrip.specs.Exchanges.{IsRequest}
use Rattle.rw_world.proofs.shared.AnswerLemmas.{asked, body_small}
use Rattle.rw_world.proofs.receiver.ask.Goals as goal

pub exchange-requires : goal.exchange-requires
exchange-requires c =
    let s = c.args.sent.now in
    let host : is_host_name c.args.host.now ≡ true = c.conforms.ensures in
    let path : is_request_path c.args.limits.now.path ≡ true = c.conforms-2.ensures in
    let e = c.request-request.ensures ∙ c.requires.bytes in
    let small = body_small c.args.host.now c.args.limits.now.path (body_of s.batch) c.request-request.result.now e c.if-request-gt-MOST_BYTES.false in
    subst (IsRequest c.args.limits.now.path (intake_of c.args.limits.now)) (sym e) (c.requests_are_read.ensures.either c.args.host.now c.args.limits.now.path (body_of s.batch) (intake_of c.args.limits.now) host path small)

pub returns : goal.returns
returns c =
    let s = c.args.sent.now in
    let host : is_host_name c.args.host.now ≡ true = c.conforms.ensures in
    let path : is_request_path c.args.limits.now.path ≡ true = c.conforms-2.ensures in
    asked c.args.host.now c.args.limits.now.path (intake_of c.args.limits.now) s c.request-request.result.now c.args.head.now c.exchange.new.answer c.exchange.result c.requires c.request-request.ensures host path
    c.if-request-gt-MOST_BYTES.false c.requests_are_read.ensures.read c.requests_are_read.ensures.refused c.exchange.ensures.answered c.exchange.ensures.refused
