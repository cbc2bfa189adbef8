use Rattle.std.proofs.Common.{◌≡◌, ◌≢◌, ◌||◌, ◌∙◌, ℕ, IsTrue, true, ap, sym, arith}
use Rattle.std.proofs.lemmas.Grind.{common_steps}
use Rattle.rw_endpoint.specs.Judgement.{is_refusal}
use Rattle.rw_endpoint.specs.Replies.{reply_bytes, is_body_status}
use Rattle.rw_endpoint.proofs.reply.closing_reply.Goals as goal

pub returns-in-204 : goal.returns-in-204
unfolding reply_bytes
returns-in-204 c = c.as_slice.ensures ∙ ap (λ s. reply_bytes s true) (sym c.in-204.is)

pub returns-in-400 : goal.returns-in-400
unfolding reply_bytes
returns-in-400 c = c.as_slice-in-400.ensures ∙ ap (λ s. reply_bytes s true) (sym c.in-400.is)

pub returns-in-404 : goal.returns-in-404
unfolding reply_bytes
returns-in-404 c = c.as_slice-in-404.ensures ∙ ap (λ s. reply_bytes s true) (sym c.in-404.is)

pub returns-in-405 : goal.returns-in-405
unfolding reply_bytes
returns-in-405 c = c.as_slice-in-405.ensures ∙ ap (λ s. reply_bytes s true) (sym c.in-405.is)

pub returns-in-411 : goal.returns-in-411
unfolding reply_bytes
returns-in-411 c = c.as_slice-in-411.ensures ∙ ap (λ s. reply_bytes s true) (sym c.in-411.is)

pub returns-in-413 : goal.returns-in-413
unfolding reply_bytes
returns-in-413 c = c.as_slice-in-413.ensures ∙ ap (λ s. reply_bytes s true) (sym c.in-413.is)

pub returns-in-415 : goal.returns-in-415
unfolding reply_bytes
returns-in-415 c = c.as_slice-in-415.ensures ∙ ap (λ s. reply_bytes s true) (sym c.in-415.is)

pub returns-in-429 : goal.returns-in-429
unfolding reply_bytes
returns-in-429 c = c.as_slice-in-429.ensures ∙ ap (λ s. reply_bytes s true) (sym c.in-429.is)

-- the status that is left
left : (s : ℕ) → IsTrue (is_body_status s || is_refusal s) → s ≢ 204 → s ≢ 400 → s ≢ 404 → s ≢ 405 → s ≢ 411 → s ≢ 413 → s ≢ 415 → s ≢ 429 → s ≡ 503
left s h n204 n400 n404 n405 n411 n413 n415 n429 = grind (arith, common_steps)

pub returns-in_default : goal.returns-in_default
unfolding reply_bytes
returns-in_default c =
    let e : c.args.status ≡ 503 = grind (arith, common_steps, left, c.requires) in
    c.as_slice-in_default.ensures ∙ ap (λ s. reply_bytes s true) (sym e)
