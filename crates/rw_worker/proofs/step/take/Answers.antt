use Rattle.std.proofs.Common.{None, Some, inr, sym, refl}
use Rattle.rw_worker.proofs.StateLemmas.{may-take-of, steps-taken, state-taken, state-ended, report-hard, report-killed}
use Rattle.rw_worker.proofs.step.take.Goals as goal

pub take-requires-clause-item : goal.take-requires-clause-item
take-requires-clause-item g c =
    let h = c.in-Item.ensures in
    may-take-of _ _ _ _ _ _ _ c.args.drain c.in-Item.drain c.args.sending.now c.args._pause.now c.in-Item.item c.requires.sending h.3 h.1

pub returns-in-Item : goal.returns-in-Item
returns-in-Item g c =
    let h = c.in-Item.ensures in record {
      progress = state-taken _ _ _ _ _ _ _ c.args.drain c.in-Item.drain c.args.sending.now c.args._pause.now c.in-Item.item c.take.new.self c.requires.sending c.requires.can h.0 h.1 h.3 c.take.ensures;
      steps = steps-taken _ _ _ _ _ _ _ c.args.drain c.in-Item.drain c.args.sending.now c.args._pause.now c.in-Item.item c.take.new.self c.requires.sending c.requires.can h.1 h.3 c.take.ensures;
      goes = tt;
    }

pub returns-then-is_hard : goal.returns-then-is_hard
returns-then-is_hard g c =
    let h = c.in-End.ensures in record {
      progress = report-hard _ _ _ _ _ _ _ c.in-End.kind c.args.drain c.in-End.drain c.args.sending.now c.args._pause.now (sym c.if-is_hard.ensures) c.requires.sending c.requires.can h.0 h.1 h.2;
      steps = tt;
      goes = refl;
    }

pub returns-else-is_hard : goal.returns-else-is_hard
returns-else-is_hard g c =
    let h = c.in-End.ensures in record {
      progress = state-ended _ _ _ _ _ _ _ c.args.drain c.in-End.drain c.args.sending.now c.args._pause.now c.in-End.kind c.take-in-End.new.self (sym c.if-is_hard.ensures) c.requires.sending c.requires.can h.0 h.1 h.2 c.take-in-End.ensures;
      steps = steps-taken _ _ _ _ _ _ _ c.args.drain c.in-End.drain c.args.sending.now c.args._pause.now _ c.take-in-End.new.self c.requires.sending c.requires.can h.1 h.2 c.take-in-End.ensures;
      goes = tt;
    }

pub returns-in-Gone : goal.returns-in-Gone
returns-in-Gone g c = record {
  progress = report-killed _ _ _ _ _ _ _ c.args.drain c.in-Gone.drain None (Some c.in-Gone.gone) c.args.sending.now c.args._pause.now c.requires.sending c.in-Gone.ensures.0 (tt, c.in-Gone.ensures.1) (inr refl);
  steps = tt;
  goes = refl;
}
