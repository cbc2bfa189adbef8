use Rattle.std.proofs.Common.{rules}
use Rattle.rw_series_cache.specs.Found.{IsLookedUp}
use Rattle.rw_series_cache.specs.declared.known.Known.TheVariants as known
use Rattle.rw_series_cache.proofs.CacheLemmas.{answers_after}
use Rattle.rw_series_cache.proofs.cache.Cache.look.Goals as goal

pub returns-in-None-clause-log : goal.returns-in-None-clause-log
returns-in-None-clause-log c entries e =
    let answer : IsLookedUp c.args.self.now.choice c.args.self.now.definitions c.args.reference known.Unknown = search rules in
    answers_after c.args.self.now.choice c.args.self.now.definitions entries c.args.reference known.Unknown e answer

pub returns-in-Some-Bad-clause-log : goal.returns-in-Some-Bad-clause-log
returns-in-Some-Bad-clause-log c entries e =
    let answer : IsLookedUp c.args.self.now.choice c.args.self.now.definitions c.args.reference (known.Bad c.in-Some-Bad.fault) = search rules in
    answers_after c.args.self.now.choice c.args.self.now.definitions entries c.args.reference (known.Bad c.in-Some-Bad.fault) e answer

pub returns-in-Some-Filtered-clause-log : goal.returns-in-Some-Filtered-clause-log
returns-in-Some-Filtered-clause-log c entries e =
    let answer : IsLookedUp c.args.self.now.choice c.args.self.now.definitions c.args.reference known.Filtered = search rules in
    answers_after c.args.self.now.choice c.args.self.now.definitions entries c.args.reference known.Filtered e answer

pub returns-in-Some-Kept-clause-log : goal.returns-in-Some-Kept-clause-log
returns-in-Some-Kept-clause-log c entries e =
    let answer : IsLookedUp c.args.self.now.choice c.args.self.now.definitions c.args.reference (known.Kept c.in-Some-Kept.number c.get-in-Some-Kept.result) = search rules in
    answers_after c.args.self.now.choice c.args.self.now.definitions entries c.args.reference (known.Kept c.in-Some-Kept.number c.get-in-Some-Kept.result) e answer
