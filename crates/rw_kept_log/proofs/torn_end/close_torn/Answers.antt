use Rattle.std.proofs.Common.{◌≡◌, ◌++◌, [], ◌∷◌, ap, ◌∙◌, take, lit<}
use Rattle.rw_kept_log.specs.Journal.{Segments, on_last}
use Rattle.rw_wal_format.specs.Pieces.{page_size}
use Rattle.rw_kept_log.specs.Logs.{entries_of}
use Rattle.rw_kept_log.proofs.shared.ClosingLemmas.{cutting, beginning, begun}
use Rattle.rw_kept_log.proofs.shared.Moments.{started, goes_on}
use Rattle.rw_kept_log.proofs.torn_end.close_torn.Goals as goal

pub returns-in_err-cut-clause-any_moment : goal.returns-in_err-cut-clause-any_moment
returns-in_err-cut-clause-any_moment g c =
    let P : Segments → Type 0 = λ x. entries_of page_size x ≡ entries_of page_size (g.J.Journal.seen c.args.journal.now) in
    let first = started g.J.Journal.moment g.J.Journal.left_since c.args.journal.now P (λ x left. ap (entries_of page_size) (c.requires.synced x (g.met.J.Journal.only_now c.args.journal.now x left))) in
    let cut : (x : Segments) → g.J.Journal.may_leave c.cut.new.self x → P x = λ x left. cutting page_size (g.J.Journal.seen c.args.journal.now) c.args.at x (lit< tt) c.requires.whole c.requires.clean (c.cut.ensures.crash x left) in
    goes_on g.J.Journal.moment g.J.Journal.left_since c.args.journal.now c.args.journal.now c.cut.new.self P _ first c.cut.ensures.time cut

pub returns-in_err-sync-clause-any_moment : goal.returns-in_err-sync-clause-any_moment
returns-in_err-sync-clause-any_moment g c =
    let P : Segments → Type 0 = λ x. entries_of page_size x ≡ entries_of page_size (g.J.Journal.seen c.args.journal.now) in
    let first = started g.J.Journal.moment g.J.Journal.left_since c.args.journal.now P (λ x left. ap (entries_of page_size) (c.requires.synced x (g.met.J.Journal.only_now c.args.journal.now x left))) in
    let cut : (x : Segments) → g.J.Journal.may_leave c.cut.new.self x → P x = λ x left. cutting page_size (g.J.Journal.seen c.args.journal.now) c.args.at x (lit< tt) c.requires.whole c.requires.clean (c.cut.ensures.crash x left) in
    let second = goes_on g.J.Journal.moment g.J.Journal.left_since c.args.journal.now c.args.journal.now c.cut.new.self P _ first c.cut.ensures.time cut in
    goes_on g.J.Journal.moment g.J.Journal.left_since c.args.journal.now c.cut.new.self c.sync.new.self P _ second c.sync.ensures.time (λ x left. cut x (c.sync.ensures.crash x left))

pub returns-in_err-begin-clause-any_moment : goal.returns-in_err-begin-clause-any_moment
returns-in_err-begin-clause-any_moment g c =
    let P : Segments → Type 0 = λ x. entries_of page_size x ≡ entries_of page_size (g.J.Journal.seen c.args.journal.now) in
    let first = started g.J.Journal.moment g.J.Journal.left_since c.args.journal.now P (λ x left. ap (entries_of page_size) (c.requires.synced x (g.met.J.Journal.only_now c.args.journal.now x left))) in
    let cut : (x : Segments) → g.J.Journal.may_leave c.cut.new.self x → P x = λ x left. cutting page_size (g.J.Journal.seen c.args.journal.now) c.args.at x (lit< tt) c.requires.whole c.requires.clean (c.cut.ensures.crash x left) in
    let second = goes_on g.J.Journal.moment g.J.Journal.left_since c.args.journal.now c.args.journal.now c.cut.new.self P _ first c.cut.ensures.time cut in
    let third = goes_on g.J.Journal.moment g.J.Journal.left_since c.args.journal.now c.cut.new.self c.sync.new.self P _ second c.sync.ensures.time (λ x left. cut x (c.sync.ensures.crash x left)) in
    let is : g.J.Journal.seen c.sync.new.self ≡ on_last (take c.args.at) (g.J.Journal.seen c.args.journal.now) = c.sync.ensures.seen ∙ c.in_ok-cut.ensures.cut in
    goes_on g.J.Journal.moment g.J.Journal.left_since c.args.journal.now c.sync.new.self c.begin.new.self P _ third c.begin.ensures.time
    (λ x left. beginning page_size (g.J.Journal.seen c.args.journal.now) c.args.at (lit< tt) c.requires.whole c.requires.clean (g.J.Journal.seen c.sync.new.self) x is (c.begin.ensures.crash x left))

pub returns-clause-any_moment : goal.returns-clause-any_moment
returns-clause-any_moment g c =
    let P : Segments → Type 0 = λ x. entries_of page_size x ≡ entries_of page_size (g.J.Journal.seen c.args.journal.now) in
    let first = started g.J.Journal.moment g.J.Journal.left_since c.args.journal.now P (λ x left. ap (entries_of page_size) (c.requires.synced x (g.met.J.Journal.only_now c.args.journal.now x left))) in
    let cut : (x : Segments) → g.J.Journal.may_leave c.cut.new.self x → P x = λ x left. cutting page_size (g.J.Journal.seen c.args.journal.now) c.args.at x (lit< tt) c.requires.whole c.requires.clean (c.cut.ensures.crash x left) in
    let second = goes_on g.J.Journal.moment g.J.Journal.left_since c.args.journal.now c.args.journal.now c.cut.new.self P _ first c.cut.ensures.time cut in
    let third = goes_on g.J.Journal.moment g.J.Journal.left_since c.args.journal.now c.cut.new.self c.sync.new.self P _ second c.sync.ensures.time (λ x left. cut x (c.sync.ensures.crash x left)) in
    let is : g.J.Journal.seen c.sync.new.self ≡ on_last (take c.args.at) (g.J.Journal.seen c.args.journal.now) = c.sync.ensures.seen ∙ c.in_ok-cut.ensures.cut in
    goes_on g.J.Journal.moment g.J.Journal.left_since c.args.journal.now c.sync.new.self c.begin.new.self P _ third c.begin.ensures.time
    (λ x left. beginning page_size (g.J.Journal.seen c.args.journal.now) c.args.at (lit< tt) c.requires.whole c.requires.clean (g.J.Journal.seen c.sync.new.self) x is (c.begin.ensures.crash x left))

pub returns-clause-entries : goal.returns-clause-entries
returns-clause-entries g c =
    let is : g.J.Journal.seen c.begin.new.self ≡ on_last (take c.args.at) (g.J.Journal.seen c.args.journal.now) ++ [] ∷ [] =
    c.in_ok-begin.ensures.begun ∙ ap (λ (s : Segments). s ++ [] ∷ []) (c.sync.ensures.seen ∙ c.in_ok-cut.ensures.cut) in
    (begun page_size (g.J.Journal.seen c.args.journal.now) c.args.at (lit< tt) c.requires.whole c.requires.clean (g.J.Journal.seen c.begin.new.self) is).0

pub returns-clause-whole : goal.returns-clause-whole
returns-clause-whole g c =
    let is : g.J.Journal.seen c.begin.new.self ≡ on_last (take c.args.at) (g.J.Journal.seen c.args.journal.now) ++ [] ∷ [] =
    c.in_ok-begin.ensures.begun ∙ ap (λ (s : Segments). s ++ [] ∷ []) (c.sync.ensures.seen ∙ c.in_ok-cut.ensures.cut) in
    (begun page_size (g.J.Journal.seen c.args.journal.now) c.args.at (lit< tt) c.requires.whole c.requires.clean (g.J.Journal.seen c.begin.new.self) is).1
