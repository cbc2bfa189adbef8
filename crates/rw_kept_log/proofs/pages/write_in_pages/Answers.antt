use Rattle.std.proofs.Common.{◌≡◌, ℕ, ◌+◌, ◌-◌, List, ◌++◌, take, drop, sym, ap, ◌∙◌, subst, arith, take-append-drop}
use Rattle.std.proofs.lemmas.List.{drop-drop}
use Rattle.rw_kept_log.specs.Journal.{Segments, with_more}
use Rattle.rw_kept_log.specs.Torn.{IsTornLog}
use Rattle.rw_kept_log.proofs.shared.Moments.{started, goes_on}
use Rattle.rw_kept_log.proofs.SegmentLemmas.{with_none, not_torn, torn_part, part_written}
use Rattle.rw_kept_log.proofs.pages.write_in_pages.Goals as goal

pub loop-rest-init : goal.loop-rest-init
loop-rest-init g c =
    let seen = g.J.Journal.seen c.args.journal.now in
    let z : 0 ≡ c.args.offset - c.args.offset = omega arith in
    record {
      at = omega arith;
      left = omega arith;
      rest = ap (λ (n : ℕ). drop n c.args.bytes.now) z;
      written = sym (with_none (g.J.Journal.seen c.args.journal.now)) ∙ ap (λ (n : ℕ). with_more (g.J.Journal.seen c.args.journal.now) (take n c.args.bytes.now)) z;
      synced = c.requires.synced;
      faults = omega arith;
      moments = started g.J.Journal.moment g.J.Journal.left_since c.args.journal.now (IsTornLog g.J.Journal.tears c.args.page c.args.offset (g.J.Journal.seen c.args.journal.now) c.args.bytes.now)
          (λ x left. subst (IsTornLog g.J.Journal.tears c.args.page c.args.offset (g.J.Journal.seen c.args.journal.now) c.args.bytes.now) (sym (c.requires.synced x (g.met.J.Journal.only_now c.args.journal.now x left)))
          (not_torn g.J.Journal.tears c.args.page c.args.offset (g.J.Journal.seen c.args.journal.now) c.args.bytes.now));
    }

pub returns-in_err-append-clause-any_moment : goal.returns-in_err-append-clause-any_moment
returns-in_err-append-clause-any_moment g c =
    let inv = c.loop-rest.invariant in
    let whole : c.loop-rest.rest.now ≡ c.split_at.result.0.now ++ c.split_at.result.1.now =
    sym (ap (λ (f : List ℕ). f ++ c.split_at.result.1.now) c.split_at.ensures.front ∙ ap (λ (b : List ℕ). take c.part_len-len.result c.loop-rest.rest.now ++ b) c.split_at.ensures.back ∙ take-append-drop c.part_len-len.result c.loop-rest.rest.now) in
    let torn : (x : Segments) → g.J.Journal.may_leave c.append.new.self x → IsTornLog g.J.Journal.tears c.args.page c.args.offset (g.J.Journal.seen c.args.journal.now) c.args.bytes.now x = λ x left.
    torn_part g.J.Journal.tears c.args.page c.args.offset c.loop-rest.at (g.J.Journal.seen c.args.journal.now) (g.J.Journal.seen c.loop-rest.journal) c.args.bytes.now c.loop-rest.rest.now c.split_at.result.0.now c.split_at.result.1.now x inv.at (omega (arith, inv.left))
    (omega (arith, c.split_at.ensures.front_len, c.part_len-len.ensures.page)) inv.rest whole inv.written (c.append.ensures.crash x left) in
    goes_on g.J.Journal.moment g.J.Journal.left_since c.args.journal.now c.loop-rest.journal c.append.new.self (IsTornLog g.J.Journal.tears c.args.page c.args.offset (g.J.Journal.seen c.args.journal.now) c.args.bytes.now) _
    c.loop-rest.invariant.moments c.append.ensures.time torn

pub returns-in_err-sync-clause-any_moment : goal.returns-in_err-sync-clause-any_moment
returns-in_err-sync-clause-any_moment g c =
    let inv = c.loop-rest.invariant in
    let whole : c.loop-rest.rest.now ≡ c.split_at.result.0.now ++ c.split_at.result.1.now =
    sym (ap (λ (f : List ℕ). f ++ c.split_at.result.1.now) c.split_at.ensures.front ∙ ap (λ (b : List ℕ). take c.part_len-len.result c.loop-rest.rest.now ++ b) c.split_at.ensures.back ∙ take-append-drop c.part_len-len.result c.loop-rest.rest.now) in
    let torn : (x : Segments) → g.J.Journal.may_leave c.append.new.self x → IsTornLog g.J.Journal.tears c.args.page c.args.offset (g.J.Journal.seen c.args.journal.now) c.args.bytes.now x = λ x left.
    torn_part g.J.Journal.tears c.args.page c.args.offset c.loop-rest.at (g.J.Journal.seen c.args.journal.now) (g.J.Journal.seen c.loop-rest.journal) c.args.bytes.now c.loop-rest.rest.now c.split_at.result.0.now c.split_at.result.1.now x inv.at (omega (arith, inv.left))
    (omega (arith, c.split_at.ensures.front_len, c.part_len-len.ensures.page)) inv.rest whole inv.written (c.append.ensures.crash x left) in
    let appended = goes_on g.J.Journal.moment g.J.Journal.left_since c.args.journal.now c.loop-rest.journal c.append.new.self (IsTornLog g.J.Journal.tears c.args.page c.args.offset (g.J.Journal.seen c.args.journal.now) c.args.bytes.now) _
    c.loop-rest.invariant.moments c.append.ensures.time torn in
    goes_on g.J.Journal.moment g.J.Journal.left_since c.args.journal.now c.append.new.self c.sync.new.self (IsTornLog g.J.Journal.tears c.args.page c.args.offset (g.J.Journal.seen c.args.journal.now) c.args.bytes.now) _
    appended c.sync.ensures.time (λ x now. torn x (c.sync.ensures.crash x now))

pub loop-rest-preserved : goal.loop-rest-preserved
loop-rest-preserved g c =
    let inv = c.loop-rest.invariant in
    let whole : c.loop-rest.rest.now ≡ c.split_at.result.0.now ++ c.split_at.result.1.now =
    sym (ap (λ (f : List ℕ). f ++ c.split_at.result.1.now) c.split_at.ensures.front ∙ ap (λ (b : List ℕ). take c.part_len-len.result c.loop-rest.rest.now ++ b) c.split_at.ensures.back ∙ take-append-drop c.part_len-len.result c.loop-rest.rest.now) in
    let torn : (x : Segments) → g.J.Journal.may_leave c.append.new.self x → IsTornLog g.J.Journal.tears c.args.page c.args.offset (g.J.Journal.seen c.args.journal.now) c.args.bytes.now x = λ x left.
    torn_part g.J.Journal.tears c.args.page c.args.offset c.loop-rest.at (g.J.Journal.seen c.args.journal.now) (g.J.Journal.seen c.loop-rest.journal) c.args.bytes.now c.loop-rest.rest.now c.split_at.result.0.now c.split_at.result.1.now x inv.at (omega (arith, inv.left))
    (omega (arith, c.split_at.ensures.front_len, c.part_len-len.ensures.page)) inv.rest whole inv.written (c.append.ensures.crash x left) in
    let appended = goes_on g.J.Journal.moment g.J.Journal.left_since c.args.journal.now c.loop-rest.journal c.append.new.self (IsTornLog g.J.Journal.tears c.args.page c.args.offset (g.J.Journal.seen c.args.journal.now) c.args.bytes.now) _
    c.loop-rest.invariant.moments c.append.ensures.time torn in
    let synced = goes_on g.J.Journal.moment g.J.Journal.left_since c.args.journal.now c.append.new.self c.sync.new.self (IsTornLog g.J.Journal.tears c.args.page c.args.offset (g.J.Journal.seen c.args.journal.now) c.args.bytes.now) _
    appended c.sync.ensures.time (λ x now. torn x (c.sync.ensures.crash x now)) in
    let n : c.loop-rest.at - c.args.offset + c.part_len-len.result ≡ c.loop-rest.at + c.part_len-len.result - c.args.offset = omega (arith, inv.at) in
    record {
      at = omega (arith, inv.at);
      left = omega (arith, inv.at, inv.left, c.split_at.ensures.back_len, c.split_at.ensures.front_len, c.part_len-len.ensures.within);
      rest = c.split_at.ensures.back ∙ ap (drop c.part_len-len.result) inv.rest ∙ drop-drop c.part_len-len.result (c.loop-rest.at - c.args.offset) c.args.bytes.now ∙ ap (λ (k : ℕ). drop k c.args.bytes.now) n;
      written = c.sync.ensures.seen
          ∙ part_written (g.J.Journal.seen c.args.journal.now) (g.J.Journal.seen c.loop-rest.journal) (g.J.Journal.seen c.append.new.self) (c.loop-rest.at - c.args.offset) c.part_len-len.result c.args.bytes.now c.split_at.result.0.now c.loop-rest.rest.now
          inv.written c.in_ok-append.ensures.written c.split_at.ensures.front inv.rest
          ∙ ap (λ (k : ℕ). with_more (g.J.Journal.seen c.args.journal.now) (take k c.args.bytes.now)) n;
      synced = c.in_ok-sync.ensures.durable;
      faults = omega (arith, inv.faults, c.append.ensures.cause.later, c.sync.ensures.cause.later);
      moments = synced;
    }
