use Rattle.rw_inspect.proofs.FindingLemmas.{defined_ok, defined_sample}
use Rattle.rw_inspect.proofs.found.define.Goals as goal

pub returns-in-Def-clause-defined : goal.returns-in-Def-clause-defined
returns-in-Def-clause-defined c = defined_ok _ _ _ _ _ _ c.in-Def.is c.define.ensures.ok

pub returns-in-Sample-clause-defined : goal.returns-in-Sample-clause-defined
returns-in-Sample-clause-defined c = defined_sample c.args.cache.now _ _ _ _ c.in-Sample.is
