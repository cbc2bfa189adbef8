use Rattle.std.proofs.Common.{Err, ℕ, List, [], ◌++◌, Some, refl, sym, ◌∙◌, ap, append_assoc, length-append, arith, subst}
use Rattle.std.proofs.lemmas.List.{append-nil}
use Rattle.std.specs.Io.KnownBytes.{prepend_known}
use Rattle.rw_endpoint.specs.Serving.{Serves, Ends, ends, last}
use Rattle.rw_endpoint.specs.declared.serve_end.ServeEnd.{ServeEnd}
use Rattle.rw_endpoint.specs.declared.serve_end.ServeEnd.TheVariants.{OutOfMemory}
use Rattle.rw_endpoint.proofs.FrontLemmas.{shorter}
use Rattle.rw_endpoint.proofs.ServingLemmas.{served_none, served_more, stopped_at_body}
use Rattle.rw_endpoint.proofs.RecordedLemmas.{reads_none, so_far_none, so_far_more, so_far_ends, so_far_stops}
use Rattle.rw_endpoint.proofs.requests.serve_all.Goals as goal

pub loop-init : goal.loop-init
loop-init g c = record {
  sure = λ s. s;
  so_far = λ input before e w. (
    [],
    input,
    w ∙ ap Some (sym (append-nil before)),
    ap (λ (t : List ℕ). prepend_known t (g.T.ReadFrom.remaining c.args.reader.now)) c.new-pending.ensures ∙ ap (prepend_known []) e,
    served_none c.args.path.now c.args.intake g.A.Answer.answers input c.args.answer.now,
    omega arith,
    λ sound. (sound, omega arith),
  );
  recorded = λ before w. reads_none _ _ (so_far_none c.args.path.now c.args.intake g.A.Answer.answers c.args.answer.now before _ _ w c.new-pending.ensures);
}

pub loop-preserved : goal.loop-preserved
loop-preserved g c =
    let told = c.in-Ok.ensures {u = c.in-Ok.field-0} in
    record {
      sure = λ s. told.sure (c.loop.invariant.sure s);
      so_far = λ input before e w.
          let h = c.loop.invariant.so_far input before e w in
          let s = told.served h.1 (before ++ h.0) h.3 h.2 in (
            h.0 ++ s.0,
            s.2.0,
            s.1 ∙ ap Some (append_assoc before h.0 s.0),
            s.2.1,
            served_more c.args.path.now c.args.intake g.A.Answer.answers input c.args.answer.now h.0 h.1 c.loop.answer s.0 s.2.0 c.serve_one.new.answer h.4 s.2.2,
            (let less = shorter c.args.path.now c.args.intake g.A.Answer.answers h.1 c.loop.answer s.0 s.2.0 c.serve_one.new.answer s.2.2 in omega (arith, h.5, less)),
            λ sound.
                let was = h.6 sound in
                let is = s.3 was.0 in
                (is.0, simp length-append (omega (arith, was.1, is.1))),
          );
      recorded = λ before w past e.
          let h = c.loop.invariant.recorded before w past e in
          let s = told.recorded (before ++ h.2.text) h.2.written (past ++ h.0) h.1 in (
            h.0 ++ s.0,
            s.1 ∙ ap Some (append_assoc past h.0 s.0),
            so_far_more c.args.path.now c.args.intake g.A.Answer.answers c.args.answer.now before _ _ c.loop.pending _ c.loop.answer _ h.0 s.0 s.2.0 c.in-Ok.field-0 h.2 s.2.1 s.2.2,
          );
    }

pub returns-in-Err-clause-served : goal.returns-in-Err-clause-served
returns-in-Err-clause-served g c = λ input before e w.
    let h = c.loop.invariant.so_far input before e w in
    let s = c.in-Err.ensures.served h.1 (before ++ h.0) h.3 h.2 in
    (h.0 ++ s.0, s.1 ∙ ap Some (append_assoc before h.0 s.0), h.4.serves s.0 c.in-Err.how c.serve_one.new.answer (ends s.2))

pub returns-in-Err-clause-recorded : goal.returns-in-Err-clause-recorded
returns-in-Err-clause-recorded g c = λ before w past e.
    let h = c.loop.invariant.recorded before w past e in
    let s = c.in-Err.ensures.recorded (before ++ h.2.text) h.2.written (past ++ h.0) h.1 in (
      h.0 ++ s.0,
      s.1 ∙ ap Some (append_assoc past h.0 s.0),
      so_far_ends c.args.path.now c.args.intake g.A.Answer.answers c.args.answer.now before _ _ c.loop.pending c.loop.answer c.serve_one.new.answer h.0 s.0 s.2.0 c.in-Err.how h.2 s.2.1 s.2.2,
    )

pub returns-in-Err-clause-device : goal.returns-in-Err-clause-device
returns-in-Err-clause-device g c = λ is. c.in-Err.ensures.device (ap Err is)

pub returns-in-Err-clause-fits : goal.returns-in-Err-clause-fits
returns-in-Err-clause-fits g c = λ input before e w sure sound is.
    let h = c.loop.invariant.so_far input before e w in
    let was = h.6 sound in
    let s = c.in-Err.ensures.fits h.1 h.3 (c.loop.invariant.sure sure) was.0 (ap Err is) in
    (h.0 ++ s.0, h.4.replies s.0 (last s.3), simp length-append (omega (arith, was.1, s.4)))

pub returns-in-Err-clause-certain : goal.returns-in-Err-clause-certain
returns-in-Err-clause-certain g c = λ input before e w short is.
    let path = c.args.path.now in
    let intake = c.args.intake in
    let contents = g.W.Sink.contents c.serve_one.new.writer in
    let h = c.loop.invariant.so_far input before e w in
    let s = c.in-Err.ensures.served h.1 (before ++ h.0) h.3 h.2 in
    let silent = subst (λ (how : ServeEnd). Ends path intake g.A.Answer.answers h.1 c.loop.answer s.0 c.serve_one.new.answer how) is s.2 in
    let asks = c.in-Err.ensures.certain h.1 h.3 (ap Err is) in
    stopped_at_body path intake g.A.Answer.answers input c.args.answer.now before h.0 h.1 s.0 contents c.loop.answer c.serve_one.new.answer h.4.replied silent asks s.1

pub returns-clause-served : goal.returns-clause-served
returns-clause-served g c = λ input before e w.
    let h = c.loop.invariant.so_far input before e w in (
      h.0,
      h.2,
      subst (λ (t : List ℕ). Serves c.args.path.now c.args.intake g.A.Answer.answers input c.args.answer.now t c.loop.answer OutOfMemory)
          (append-nil h.0) (h.4.serves [] OutOfMemory c.loop.answer (ends (refl, refl))),
    )

pub returns-clause-recorded : goal.returns-clause-recorded
returns-clause-recorded g c = λ before w past e.
    let h = c.loop.invariant.recorded before w past e in
    (h.0, h.1, so_far_stops c.args.path.now c.args.intake g.A.Answer.answers c.args.answer.now before _ c.loop.pending c.loop.answer h.0 h.2)

pub returns-clause-certain : goal.returns-clause-certain
returns-clause-certain g c = λ input before e w short is.
    let h = c.loop.invariant.so_far input before e w in
    absurd (omega (arith, h.5, short))
