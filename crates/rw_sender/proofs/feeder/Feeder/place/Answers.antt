use Rattle.std.proofs.Common.{◌≡◌, ◌∙◌, ◌∷◌, [], take, sym, ap, subst, arith, inl, inr, ◌⊎◌}
use Rattle.std.specs.Prelude.{fold, drop}
use Rattle.rw_external_labels.specs.External.{labelled}
use Rattle.rw_series_cache.specs.Fates.{fate}
use Rattle.rw_series_cache.specs.Routing.{Routing, Routes, KnowsMore, TakesMemory}
use Rattle.rw_sender.specs.Logs.{with_name, sent_of}
use Rattle.rw_sender.specs.Feeders.{Sorting, IsDropped, IsDroppedSample, IsToBeSent, sent_by}
use Rattle.rw_sender.specs.inner.Feeders.{IsFeeder}
use Rattle.rw_series_cache.proofs.shared.RouteLemmas.{told_dropped}
use Rattle.rw_sender.proofs.FeederLemmas.{counted_seen, placed_held, placed_seen, router_placed, router_sends}
use Rattle.rw_sender.proofs.feeder.Feeder.place.Goals as goal
use Rattle.rw_types.proofs.shared.AnswerLemmas.{OnErr-always}

pub invariant_of-self-in-Placed : goal.invariant_of-self-in-Placed
invariant_of-self-in-Placed c =
    let s = c.self.inside in
    let i = c.self.invariant in
    let ps = labelled s.labels (take s.count s.read) in
    let hand = ap (λ (x : Sorting). x.hand) c.self.view_is ∙ c.requires in
    let routes = subst (Routes s.router ps s.count c.args.entry c.place.new.self) c.in-Placed.is (c.in_ok-place.ensures.ok ps i.knows) in
    let knows = subst (KnowsMore ps c.args.entry c.place.new.self.cache) c.in-Placed.is (c.in_ok-place.ensures.knows ps i.knows) in
    let p = router_placed s.router c.place.new.self ps s.count c.args.entry routes in
    let within = i.filter_within in
    let most = p.4 in
    placed_held s.labels s.tail s.router c.place.new.self s.part.names s.part.names s.count c.entries_read-read.result s.read c.args.entry i hand c.entries_read-read.ensures.count p.0 knows
    (sym (ap (λ x. fold with_name s.part.names x) p.1)) (λ n lt. i.below n (omega arith)) p.3 (omega arith)

pub returns-in-Placed-clause-ok : goal.returns-in-Placed-clause-ok
returns-in-Placed-clause-ok c =
    let s = c.self.inside in
    let i = c.self.invariant in
    let ps = labelled s.labels (take s.count s.read) in
    let routes = subst (Routes s.router ps s.count c.args.entry c.place.new.self) c.in-Placed.is (c.in_ok-place.ensures.ok ps i.knows) in
    let p = router_placed s.router c.place.new.self ps s.count c.args.entry routes in (
      placed_seen s.labels s.tail s.router c.place.new.self s.part.names s.count c.entries_read-read.result s.read c.args.self.now i c.entries_read-read.ensures.count p.0 c.self.view_is,
      subst (λ (x : Sorting). sent_of x.choice x.placed c.args.entry ≡ []) c.self.view_is p.2,
    )

pub name-requires : goal.name-requires
name-requires c =
    let s = c.self.inside in
    let i = c.self.invariant in
    let ps = labelled s.labels (take s.count s.read) in
    let hand = ap (λ (x : Sorting). x.hand) c.self.view_is ∙ c.requires in
    let routes = subst (Routes s.router ps s.count c.args.entry c.place.new.self) c.in-Dropped.is (c.in_ok-place.ensures.ok ps i.knows) in
    let d = told_dropped s.router c.place.new.self ps s.count c.args.entry c.in-Dropped.reason routes in
    record {
      reference = d.1.0;
      t = d.1.1;
      word = d.1.2;
      hand = hand ∙ ap (λ e. e ∷ []) d.1.3;
      fate_is = ap (λ (x : Routing). fate x.cache.choice ps d.1.0 d.1.1) d.0 ∙ d.1.4;
    }

pub invariant_of-self-in-Sample : goal.invariant_of-self-in-Sample
invariant_of-self-in-Sample c =
    let s = c.self.inside in
    let i = c.self.invariant in
    let ps = labelled s.labels (take s.count s.read) in
    let routes = subst (Routes s.router ps s.count c.args.entry c.place.new.self) c.in-Sample.is (c.in_ok-place.ensures.ok ps i.knows) in
    let sends = router_sends s.router c.place.new.self ps s.count c.args.entry c.in-Sample.sample (counted_seen s.labels s.count (take s.count s.read) i.counted) routes in
    subst (λ (r : Routing). IsFeeder s.labels s.tail r s.part.names s.count (take s.count s.read) (drop s.count s.read)) (sym sends.0) i

pub returns-in-Sample-clause-ok : goal.returns-in-Sample-clause-ok
returns-in-Sample-clause-ok c =
    let s = c.self.inside in
    let i = c.self.invariant in
    let ps = labelled s.labels (take s.count s.read) in
    let hand = ap (λ (x : Sorting). x.hand) c.self.view_is ∙ c.requires in
    let routes = subst (Routes s.router ps s.count c.args.entry c.place.new.self) c.in-Sample.is (c.in_ok-place.ensures.ok ps i.knows) in
    let sends = router_sends s.router c.place.new.self ps s.count c.args.entry c.in-Sample.sample (counted_seen s.labels s.count (take s.count s.read) i.counted) routes in (
      ap (λ (r : Routing). record { choice = r.cache.choice; labels = s.labels; pieces = s.tail.pieces; placed = ps; hand = labelled s.labels (drop s.count s.read) }) sends.0 ∙ c.self.view_is,
      subst (λ (x : Sorting). sent_of x.choice x.placed c.args.entry ≡ sent_by c.in-Sample.sample ∷ []) c.self.view_is sends.1,
      subst (λ (x : Sorting). IsToBeSent x c.in-Sample.sample.series c.in-Sample.sample.t) c.self.view_is (record { entry = c.args.entry; hand = hand; next = sends.2 }),
    )

pub returns-in_err-place-clause-sound : goal.returns-in_err-place-clause-sound
returns-in_err-place-clause-sound c =
    let s = c.self.inside in
    OnErr-always c.from_residual.result (subst (λ (x : Sorting). TakesMemory x.choice x.placed c.args.entry ⊎ IsDroppedSample x) c.self.view_is
    (inl (c.in_err-place.ensures.sound (labelled s.labels (take s.count s.read)) c.self.invariant.knows)))

pub returns-in_err-name-in-Dropped-clause-sound : goal.returns-in_err-name-in-Dropped-clause-sound
returns-in_err-name-in-Dropped-clause-sound c =
    let s = c.self.inside in
    let i = c.self.invariant in
    let ps = labelled s.labels (take s.count s.read) in
    let hand = ap (λ (x : Sorting). x.hand) c.self.view_is ∙ c.requires in
    let routes = subst (Routes s.router ps s.count c.args.entry c.place.new.self) c.in-Dropped.is (c.in_ok-place.ensures.ok ps i.knows) in
    let d = told_dropped s.router c.place.new.self ps s.count c.args.entry c.in-Dropped.reason routes in
    let dropped : IsDropped (record { choice = s.router.cache.choice; labels = s.labels; pieces = s.tail.pieces; placed = ps; hand = labelled s.labels (drop s.count s.read) }) c.in-Dropped.reason =
    record { reference = d.1.0; t = d.1.1; word = d.1.2; hand = hand ∙ ap (λ e. e ∷ []) d.1.3; fate_is = d.1.4 } in
    OnErr-always c.from_residual-in_err-name-in-Dropped.result (inr (c.in-Dropped.reason, subst (λ (x : Sorting). IsDropped x c.in-Dropped.reason) c.self.view_is dropped))
