use Rattle.std.proofs.Common.{◌≡◌, ℕ, List, [], ◌++◌, take, drop, true, Some, refl, sym, subst, ◌∙◌, ap, inr, append_assoc}
use Rattle.std.proofs.lemmas.List.{append-nil}
use Rattle.std.specs.Io.KnownBytes.{prepend_known}
use Rattle.rw_endpoint.specs.inner.Reading.{Judges}
use Rattle.rw_endpoint.specs.declared.finding.Finding.{Finding}
use Rattle.rw_endpoint.specs.declared.head.RequestReading.TheVariants.{Head}
use Rattle.rw_endpoint.specs.Coding.{through}
use Rattle.rw_endpoint.specs.Serving.{Replies}
use Rattle.rw_endpoint.specs.inner.Steps.{HasBodyServed, HasServed}
use Rattle.rw_endpoint.proofs.KnownLemmas.{keeps_known, appends_known, prepend_split, prepend_known_is}
use Rattle.rw_endpoint.proofs.FrontLemmas.{no_request, refused, body_answered, body_served, asks_for_body, no_room}
use Rattle.rw_endpoint.proofs.requests.serve_one.Goals as goal

pub returns-in-Err-write_all-clause-served : goal.returns-in-Err-write_all-clause-served
returns-in-Err-write_all-clause-served g c = λ input before e w.
    let path = c.args.path.now in
    let intake = c.args.intake in
    let s = c.args.answer.now in
    let pend = c.read_front.new.pending in
    let left = g.T.ReadFrom.remaining c.read_front.new.reader in
    let never = rw c.in-Never.is at c.in-Ok.ensures.front in
    let known : prepend_known pend left ≡ Some input = keeps_known _ _ input c.in-Ok.ensures.kept e in
    let part = c.in-Err-write_all.ensures.part in
    let sent = c.closing_reply in
    let whole = subst (λ (t : List ℕ). Replies path intake g.A.Answer.answers input s t [] true s) (sym sent.ensures)
    (no_request path intake g.A.Answer.answers pend left input s never known) in
    (take part.0 sent.result.now, appends_known _ _ before _ part.2 w, inr (sent.result.now, part.0, [], true, whole, refl), tt)

pub returns-in-Err-write_all-2-clause-served : goal.returns-in-Err-write_all-2-clause-served
returns-in-Err-write_all-2-clause-served g c = λ input before e w.
    let path = c.args.path.now in
    let intake = c.args.intake in
    let s = c.args.answer.now in
    let pend = c.read_front.new.pending in
    let left = g.T.ReadFrom.remaining c.read_front.new.reader in
    let arm = c.in-Refused in
    let len = c.in-Head.len in
    let read = rw c.in-Head.is at c.in-Ok.ensures.front in
    let j = subst (λ (f : Finding). Judges path intake pend (Head f len)) arm.is read.0 in
    let known : prepend_known pend left ≡ Some input = keeps_known _ _ input c.in-Ok.ensures.kept e in
    let part = c.in-Err-write_all-2.ensures.part in
    let sent = c.closing_reply-in-Refused in
    let whole = subst (λ (t : List ℕ). Replies path intake g.A.Answer.answers input s t [] true s) (sym sent.ensures)
    (refused path intake g.A.Answer.answers pend left input s arm.status len j known) in
    (take part.0 sent.result.now, appends_known _ _ before _ part.2 w, inr (sent.result.now, part.0, [], true, whole, refl), tt)

pub returns-in-Body-clause-served : goal.returns-in-Body-clause-served
returns-in-Body-clause-served g c = λ input before e w.
    let path = c.args.path.now in
    let intake = c.args.intake in
    let pend = c.read_front.new.pending in
    let left = g.T.ReadFrom.remaining c.read_front.new.reader in
    let arm = c.in-Body in
    let len = c.in-Head.len in
    let read = rw c.in-Head.is at c.in-Ok.ensures.front in
    let j = subst (λ (f : Finding). Judges path intake pend (Head f len)) arm.is read.0 in
    let known : prepend_known pend left ≡ Some input = keeps_known _ _ input c.in-Ok.ensures.kept e in
    let split = prepend_split pend left input known in
    let rest = drop len pend ++ split.0 in
    let after : prepend_known c.drop_front.new.self left ≡ Some rest =
    ap (λ (t : List ℕ). prepend_known t left) c.drop_front.ensures ∙ prepend_known_is (drop len pend) left split.0 split.1 in
    let done = c.serve_body.ensures.served rest before after w in
    let old = c.args.answer.now in
    let new = c.serve_body.new.answer in
    let then = prepend_known c.serve_body.new.pending (g.T.ReadFrom.remaining c.serve_body.new.reader) in
    let how = c.serve_body.result in (
      done.0,
      done.1,
      subst (λ (t : List ℕ). HasServed path intake g.A.Answer.answers t old done.0 then new how) (sym split.2)
          (body_served path intake g.A.Answer.answers pend split.0 old new arm.n len arm.closes arm.coding done.0 then how j done.2),
      done.3,
    )

pub returns-in-Err-write_all-clause-fits : goal.returns-in-Err-write_all-clause-fits
returns-in-Err-write_all-clause-fits g c = λ input e sure sound is.
    let path = c.args.path.now in
    let intake = c.args.intake in
    let s = c.args.answer.now in
    let pend = c.read_front.new.pending in
    let left = g.T.ReadFrom.remaining c.read_front.new.reader in
    let never = rw c.in-Never.is at c.in-Ok.ensures.front in
    let known : prepend_known pend left ≡ Some input = keeps_known _ _ input c.in-Ok.ensures.kept e in
    let sent = c.closing_reply in
    let whole = subst (λ (t : List ℕ). Replies path intake g.A.Answer.answers input s t [] true s) (sym sent.ensures)
    (no_request path intake g.A.Answer.answers pend left input s never known) in
    (sent.result.now, [], true, whole, no_room _ _ (c.in-Err-write_all.ensures.fits sound))

pub returns-in-Err-write_all-2-clause-fits : goal.returns-in-Err-write_all-2-clause-fits
returns-in-Err-write_all-2-clause-fits g c = λ input e sure sound is.
    let path = c.args.path.now in
    let intake = c.args.intake in
    let s = c.args.answer.now in
    let pend = c.read_front.new.pending in
    let left = g.T.ReadFrom.remaining c.read_front.new.reader in
    let arm = c.in-Refused in
    let len = c.in-Head.len in
    let read = rw c.in-Head.is at c.in-Ok.ensures.front in
    let j = subst (λ (f : Finding). Judges path intake pend (Head f len)) arm.is read.0 in
    let known : prepend_known pend left ≡ Some input = keeps_known _ _ input c.in-Ok.ensures.kept e in
    let sent = c.closing_reply-in-Refused in
    let whole = subst (λ (t : List ℕ). Replies path intake g.A.Answer.answers input s t [] true s) (sym sent.ensures)
    (refused path intake g.A.Answer.answers pend left input s arm.status len j known) in
    (sent.result.now, [], true, whole, no_room _ _ (c.in-Err-write_all-2.ensures.fits sound))

pub returns-in-Body-clause-fits : goal.returns-in-Body-clause-fits
returns-in-Body-clause-fits g c = λ input e sure sound is.
    let path = c.args.path.now in
    let intake = c.args.intake in
    let pend = c.read_front.new.pending in
    let left = g.T.ReadFrom.remaining c.read_front.new.reader in
    let arm = c.in-Body in
    let len = c.in-Head.len in
    let read = rw c.in-Head.is at c.in-Ok.ensures.front in
    let j = subst (λ (f : Finding). Judges path intake pend (Head f len)) arm.is read.0 in
    let known : prepend_known pend left ≡ Some input = keeps_known _ _ input c.in-Ok.ensures.kept e in
    let split = prepend_split pend left input known in
    let rest = drop len pend ++ split.0 in
    let after : prepend_known c.drop_front.new.self left ≡ Some rest =
    ap (λ (t : List ℕ). prepend_known t left) c.drop_front.ensures ∙ prepend_known_is (drop len pend) left split.0 split.1 in
    let done = c.serve_body.ensures.fits rest after (c.in-Ok.ensures.sure sure).0 sound is in
    let old = c.args.answer.now in
    let new = c.serve_body.new.answer in (
      done.0,
      done.1,
      arm.closes,
      subst (λ (t : List ℕ). Replies path intake g.A.Answer.answers t old done.0 done.1 arm.closes new) (sym split.2)
          (body_answered path intake g.A.Answer.answers pend split.0 done.1 old new arm.n len arm.closes arm.coding done.0 j done.2),
      done.3,
    )

pub returns-in-Body-clause-certain : goal.returns-in-Body-clause-certain
returns-in-Body-clause-certain g c = λ input e is.
    let path = c.args.path.now in
    let intake = c.args.intake in
    let pend = c.read_front.new.pending in
    let left = g.T.ReadFrom.remaining c.read_front.new.reader in
    let arm = c.in-Body in
    let len = c.in-Head.len in
    let read = rw c.in-Head.is at c.in-Ok.ensures.front in
    let j = subst (λ (f : Finding). Judges path intake pend (Head f len)) arm.is read.0 in
    asks_for_body path intake pend left input arm.n len arm.closes arm.coding j (keeps_known _ _ input c.in-Ok.ensures.kept e)

pub returns-in-Err-write_all-2-clause-recorded : goal.returns-in-Err-write_all-2-clause-recorded
returns-in-Err-write_all-2-clause-recorded g c = λ before w past e.
    let path = c.args.path.now in
    let intake = c.args.intake in
    let s = c.args.answer.now in
    let pend = c.read_front.new.pending in
    let arm = c.in-Refused in
    let len = c.in-Head.len in
    let r = c.in-Ok.ensures.recorded past e in
    let input = c.args.pending.now ++ r.0 in
    let read = rw c.in-Head.is at c.in-Ok.ensures.front in
    let j = subst (λ (f : Finding). Judges path intake pend (Head f len)) arm.is read.0 in
    let known : prepend_known pend (Some []) ≡ Some input = ap Some (append-nil pend ∙ r.2) in
    let part = c.in-Err-write_all-2.ensures.part in
    let sent = c.closing_reply-in-Refused in
    let whole = subst (λ (t : List ℕ). Replies path intake g.A.Answer.answers input s t [] true s) (sym sent.ensures)
    (refused path intake g.A.Answer.answers pend (Some []) input s arm.status len j known) in
    (r.0, r.1, (take part.0 sent.result.now, appends_known _ _ before _ part.2 w, inr (sent.result.now, part.0, [], true, whole, refl)))

pub returns-in-Body-clause-recorded : goal.returns-in-Body-clause-recorded
returns-in-Body-clause-recorded g c = λ before w past e.
    let path = c.args.path.now in
    let intake = c.args.intake in
    let pend = c.read_front.new.pending in
    let arm = c.in-Body in
    let len = c.in-Head.len in
    let read = rw c.in-Head.is at c.in-Ok.ensures.front in
    let j = subst (λ (f : Finding). Judges path intake pend (Head f len)) arm.is read.0 in
    let r = c.in-Ok.ensures.recorded past e in
    let s = c.serve_body.ensures.recorded before w (past ++ r.0) r.1 in
    let old = c.args.answer.now in
    let new = c.serve_body.new.answer in
    let then = Some c.serve_body.new.pending in
    let how = c.serve_body.result in
    let body = subst (λ (t : List ℕ). HasBodyServed (through arm.coding g.A.Answer.answers) arm.n arm.closes (t ++ s.0) old s.2.0 then new how) c.drop_front.ensures s.2.2 in
    let whole = body_served path intake g.A.Answer.answers pend s.0 old new arm.n len arm.closes arm.coding s.2.0 then how j body in
    let input = ap (λ (t : List ℕ). t ++ s.0) r.2 ∙ append_assoc c.args.pending.now r.0 s.0 in
    (r.0 ++ s.0, s.1 ∙ ap Some (append_assoc past r.0 s.0), (s.2.0, s.2.1, subst (λ (t : List ℕ). HasServed path intake g.A.Answer.answers t old s.2.0 then new how) input whole))
