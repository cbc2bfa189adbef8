use Rattle.std.proofs.Common.{◌≡◌, ◌<◌, ◌^◌, ℕ, List, true, length, decimal, sym, ap, ◌∙◌, arith}
use Rattle.rw_types.specs.Requests.{is_host_name, is_request_path}
use Rattle.rw_shard_core.specs.SentRequest.{request_head}
use Rattle.rw_shard_core.specs.inner.Requests.{after_blank_line}
use Rattle.rw_shard_core.proofs.BodyLemmas.{begins-so, not-longer}
use Rattle.rw_shard_core.proofs.request.body_in_request.Goals as goal

pub returns-in-None : goal.returns-in-None
returns-in-None c body e =
    let target = c.args.target.now in
    let request = c.args.request.now in
    let few : length request < 2 ^ 64 = omega arith in
    let host : is_host_name target.host ≡ true = c.conforms.ensures in
    let path : is_request_path target.path ≡ true = c.conforms-2.ensures in
    let is : c.as_slice.result.now ≡ request_head target.host target.path (decimal (length (after_blank_line request))) =
    c.as_slice.ensures.value ∙ c.in_ok-head.ensures ∙ ap (λ (l : List ℕ). request_head target.host target.path (decimal (length l))) c.after_blank_line-len.ensures in
    c.in-None.ensures body (begins-so target.host target.path c.as_slice.result.now request body host path few is e)

pub returns : goal.returns
returns c body e =
    let target = c.args.target.now in
    let request = c.args.request.now in
    let few : length request < 2 ^ 64 = omega arith in
    let host : is_host_name target.host ≡ true = c.conforms.ensures in
    let path : is_request_path target.path ≡ true = c.conforms-2.ensures in
    let is : c.as_slice.result.now ≡ request_head target.host target.path (decimal (length (after_blank_line request))) =
    c.as_slice.ensures.value ∙ c.in_ok-head.ensures ∙ ap (λ (l : List ℕ). request_head target.host target.path (decimal (length l))) c.after_blank_line-len.ensures in
    c.if-body-len.false (not-longer target.host target.path c.as_slice.result.now request body c.in-Some.body.now host path few is e c.in-Some.ensures ∙ ap length (sym c.after_blank_line-len.ensures))
