use Rattle.std.proofs.Common.{◌≡◌, ◌++◌, length, ap, refl, sym, ◌∙◌, take, inr}
use Rattle.rw_endpoint.specs.Replies.{reply_bytes}
use Rattle.rw_endpoint.proofs.KnownLemmas.{appends_known}
use Rattle.rw_endpoint.proofs.requests.serve_body.Goals as goal

pub returns-in-Err-write_all-clause-recorded : goal.returns-in-Err-write_all-clause-recorded
returns-in-Err-write_all-clause-recorded g c = λ before w past e.
    let r = c.in-Ok-Some.ensures.recorded past e in
    let held : (c.args.pending.now ++ r.0 ≡ c.in-Ok-Some.body.items ++ c.read_body.new.pending) × (length c.in-Ok-Some.body.items ≡ c.args.asked.len) =
    rw c.in-Ok-Some.field-0-is at r.2 in
    let part = c.in-Err-write_all.ensures.part in
    let sent = c.closing_reply in (
      r.0,
      r.1,
      (
        take part.0 sent.result.now,
        appends_known _ _ before _ part.2 w,
        inr (
          sent.result.now,
          part.0,
          c.read_body.new.pending,
          record {
            body = c.in-Ok-Some.body.items;
            status = c.in-Ok.status;
            begins = held.0;
            length = held.1;
            given = c.in-Ok.ensures.given;
            verdict = c.in-Ok.ensures.verdict;
            written = sent.ensures ∙ ap (reply_bytes c.in-Ok.status) (sym c.if-asked.true);
          },
          refl,
        ),
      ),
    )

pub returns-in-Err-write_all-2-clause-recorded : goal.returns-in-Err-write_all-2-clause-recorded
returns-in-Err-write_all-2-clause-recorded g c = λ before w past e.
    let r = c.in-Ok-Some.ensures.recorded past e in
    let held : (c.args.pending.now ++ r.0 ≡ c.in-Ok-Some.body.items ++ c.read_body.new.pending) × (length c.in-Ok-Some.body.items ≡ c.args.asked.len) =
    rw c.in-Ok-Some.field-0-is at r.2 in
    let part = c.in-Err-write_all-2.ensures.part in
    let sent = c.staying_reply in (
      r.0,
      r.1,
      (
        take part.0 sent.result.now,
        appends_known _ _ before _ part.2 w,
        inr (
          sent.result.now,
          part.0,
          c.read_body.new.pending,
          record {
            body = c.in-Ok-Some.body.items;
            status = c.in-Ok.status;
            begins = held.0;
            length = held.1;
            given = c.in-Ok.ensures.given;
            verdict = c.in-Ok.ensures.verdict;
            written = sent.ensures ∙ ap (reply_bytes c.in-Ok.status) (sym c.if-asked.false);
          },
          refl,
        ),
      ),
    )
