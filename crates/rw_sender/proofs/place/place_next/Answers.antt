use Rattle.std.proofs.Common.{subst}
use Rattle.rw_fleet.proofs.shared.LaneLemmas.{same_self}
use Rattle.rw_sender.specs.declared.feeder.Next.{Next}
use Rattle.rw_sender.specs.Feeders.{ReadsNext}
use Rattle.rw_sender.proofs.shared.ShippingLemmas.{goes_same, goes_read}
use Rattle.rw_sender.proofs.CutLemmas.{goes_cut_self}
use Rattle.rw_sender.proofs.TimeLemmas.{spanned_same}
use Rattle.rw_sender.proofs.place.place_next.Goals as goal

pub returns-in_default-clause-goes : goal.returns-in_default-clause-goes
returns-in_default-clause-goes g c = goes_same _ c.args.feeder.now c.read.new.self c.args.fleet.now c.in_default.ensures.err

pub returns-in_default-clause-spanned : goal.returns-in_default-clause-spanned
returns-in_default-clause-spanned g c = spanned_same c.args.span.now _ _ (same_self c.args.fleet.now.current) c.requires.since

pub returns-in_default-label-clause-goes : goal.returns-in_default-label-clause-goes
returns-in_default-label-clause-goes g c =
    let read = subst (λ (n : Next). ReadsNext c.args.feeder.now c.read.new.self n) c.in-Entry.is c.in-Ok.ensures.ok in
    goes_read _ c.args.feeder.now c.read.new.self _ c.args.fleet.now read

pub returns-in_default-label-clause-spanned : goal.returns-in_default-label-clause-spanned
returns-in_default-label-clause-spanned g c = spanned_same c.args.span.now _ _ (same_self c.args.fleet.now.current) c.requires.since

pub returns-in-End-clause-goes : goal.returns-in-End-clause-goes
returns-in-End-clause-goes g c =
    let read = subst (λ (n : Next). ReadsNext c.args.feeder.now c.read.new.self n) c.in-End.is c.in-Ok.ensures.ok in
    goes_same _ c.args.feeder.now c.read.new.self c.args.fleet.now read.0

pub returns-in-Damaged-clause-goes : goal.returns-in-Damaged-clause-goes
returns-in-Damaged-clause-goes g c =
    let read = subst (λ (n : Next). ReadsNext c.args.feeder.now c.read.new.self n) c.in-Damaged.is c.in-Ok.ensures.ok in
    goes_same _ c.args.feeder.now c.read.new.self c.args.fleet.now read.0

pub returns-in-End-clause-cut : goal.returns-in-End-clause-cut
returns-in-End-clause-cut g c = goes_cut_self c.args.cuts.now c.args.fleet.now.current c.requires.counted

pub returns-in-Damaged-clause-cut : goal.returns-in-Damaged-clause-cut
returns-in-Damaged-clause-cut g c = goes_cut_self c.args.cuts.now c.args.fleet.now.current c.requires.counted

pub returns-in-End-clause-spanned : goal.returns-in-End-clause-spanned
returns-in-End-clause-spanned g c = spanned_same c.args.span.now _ _ (same_self c.args.fleet.now.current) c.requires.since

pub returns-in-Damaged-clause-spanned : goal.returns-in-Damaged-clause-spanned
returns-in-Damaged-clause-spanned g c = spanned_same c.args.span.now _ _ (same_self c.args.fleet.now.current) c.requires.since
