use Rattle.std.proofs.Common.{[], List, ℕ, Vec, refl, sym, subst, arith}
use Rattle.std.specs.declared.alloc.Global.{Global}
use Rattle.rw_kept_log.specs.Retiring.{texts_of}
use Rattle.rw_kept_log.specs.inner.Written.{AreWhole}
use Rattle.rw_kept_log.proofs.WrittenLemmas.{none_whole}
use Rattle.rw_kept_log.proofs.definitions.write_definitions.Goals as goal

pub loop-rest-init : goal.loop-rest-init
loop-rest-init c = record {
  some = omega arith;
  entries = [];
  whole = subst (λ (xs : List (Vec ℕ Global)). AreWhole (texts_of xs) []) (sym c.new-texts.ensures.items) none_whole;
  all = refl;
}
