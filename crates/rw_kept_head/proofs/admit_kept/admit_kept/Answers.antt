use Rattle.std.proofs.Common.{◌≡◌, ◌∙◌, cond, Some, None, sym, subst, rules}
use Rattle.rw_kept_log.specs.Journal.{LeavesOnly}
use Rattle.rw_head.specs.Capacity.{StaysWithin}
use Rattle.rw_head.specs.Head.{State, answer}
use Rattle.rw_kept_log.proofs.shared.Moments.{started}
use Rattle.rw_kept_head.specs.Kept.{SaysWhat, IsLeft}
use Rattle.rw_kept_head.proofs.CapacityLemmas.{stays_within}
use Rattle.rw_kept_head.proofs.KeptLemmas.{is_unharmed, unset}
use Rattle.rw_kept_head.proofs.admit_kept.admit_kept.Goals as goal

pub returns-in-Err-clause-any_moment : goal.returns-in-Err-clause-any_moment
returns-in-Err-clause-any_moment g c = λ none.
    let new = (answer c.args.head c.args.body.now).head.store in
    let seen = g.J.Journal.seen c.args.log.now.journal in
    started g.J.Journal.moment g.J.Journal.left_since c.args.log.now.journal (IsLeft g.J.Journal.tears _ new seen)
    (λ x left. is_unharmed g.J.Journal.tears _ new seen x (c.conforms.ensures.synced none x (g.met.J.Journal.only_now c.args.log.now.journal x left)))

pub returns-then-exceeds-clause-any_moment : goal.returns-then-exceeds-clause-any_moment
returns-then-exceeds-clause-any_moment g c = λ none.
    let new = (answer c.args.head c.args.body.now).head.store in
    let seen = g.J.Journal.seen c.args.log.now.journal in
    started g.J.Journal.moment g.J.Journal.left_since c.args.log.now.journal (IsLeft g.J.Journal.tears _ new seen)
    (λ x left. is_unharmed g.J.Journal.tears _ new seen x (c.conforms.ensures.synced none x (g.met.J.Journal.only_now c.args.log.now.journal x left)))

pub returns-in-Err-clause-says : goal.returns-in-Err-clause-says
returns-in-Err-clause-says g c = λ none.
    let same : c.in-Err.head.store ≡ c.args.head.store = search rules in
    subst (SaysWhat (g.J.Journal.seen c.args.log.now.journal)) (sym same) (c.requires.says none)

pub keep-requires-clause-says : goal.keep-requires-clause-says
keep-requires-clause-says g c =
    let none = sym c.fault.ensures ∙ unset c.fault.result (sym c.is_some-has_failed.ensures ∙ c.if-has_failed.false) in
    subst (λ (h : State). SaysWhat (g.J.Journal.seen c.args.log.now.journal) h.store) (sym c.in-Ok.ensures.before) (c.requires.says none)

pub returns-then-keep-clause-within : goal.returns-then-keep-clause-within
returns-then-keep-clause-within g c =
    let within = stays_within c.args.capacity.now c.in-Ok.staged.before.store c.in-Ok.staged.after.store (sym c.exceeds.ensures.exceeds ∙ c.if-exceeds.false) in
    subst (λ (h : State). StaysWithin c.args.capacity.now h.store c.commit.result.store) c.in-Ok.ensures.before
    (subst (λ (h : State). StaysWithin c.args.capacity.now c.in-Ok.staged.before.store h.store) (sym c.commit.ensures.head) within)

pub returns-then-has_failed-clause-says : goal.returns-then-has_failed-clause-says
returns-then-has_failed-clause-says g c = λ none.
    let same = c.abort-then-has_failed.ensures ∙ c.in-Ok.ensures.before in
    subst (λ (h : State). SaysWhat (g.J.Journal.seen c.args.log.now.journal) h.store) (sym same) (c.requires.says none)

pub returns-then-has_failed-clause-any_moment : goal.returns-then-has_failed-clause-any_moment
returns-then-has_failed-clause-any_moment g c = λ none.
    let new = (answer c.args.head c.args.body.now).head.store in
    let seen = g.J.Journal.seen c.args.log.now.journal in
    started g.J.Journal.moment g.J.Journal.left_since c.args.log.now.journal (IsLeft g.J.Journal.tears _ new seen)
    (λ x left. is_unharmed g.J.Journal.tears _ new seen x (c.conforms.ensures.synced none x (g.met.J.Journal.only_now c.args.log.now.journal x left)))

pub returns-then-keep-clause-any_moment : goal.returns-then-keep-clause-any_moment
returns-then-keep-clause-any_moment g c = λ none.
    let seen = g.J.Journal.seen c.args.log.now.journal in
    let new = (answer c.args.head c.args.body.now).head.store in
    let all : LeavesOnly g.J.Journal.moment g.J.Journal.left_since c.args.log.now.journal c.keep.new.self.journal (IsLeft g.J.Journal.tears (cond c.keep.result (Some (g.J.Journal.seen c.keep.new.self.journal)) None) new seen) = search rules in
    subst (λ b. LeavesOnly g.J.Journal.moment g.J.Journal.left_since c.args.log.now.journal c.keep.new.self.journal (IsLeft g.J.Journal.tears (cond b (Some (g.J.Journal.seen c.keep.new.self.journal)) None) new seen)) c.if-keep.true all

pub returns-else-keep-clause-any_moment : goal.returns-else-keep-clause-any_moment
returns-else-keep-clause-any_moment g c = λ none.
    let seen = g.J.Journal.seen c.args.log.now.journal in
    let new = (answer c.args.head c.args.body.now).head.store in
    let all : LeavesOnly g.J.Journal.moment g.J.Journal.left_since c.args.log.now.journal c.keep.new.self.journal (IsLeft g.J.Journal.tears (cond c.keep.result (Some (g.J.Journal.seen c.keep.new.self.journal)) None) new seen) = search rules in
    subst (λ b. LeavesOnly g.J.Journal.moment g.J.Journal.left_since c.args.log.now.journal c.keep.new.self.journal (IsLeft g.J.Journal.tears (cond b (Some (g.J.Journal.seen c.keep.new.self.journal)) None) new seen)) c.if-keep.false all
