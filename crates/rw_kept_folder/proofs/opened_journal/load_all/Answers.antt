use Rattle.std.proofs.Common.{◌++◌, ◌∷◌, [], List, ℕ, refl, ap, ◌∙◌}
use Rattle.rw_kept_folder.specs.declared.file_call.FileCall.TheVariants.{Load}
use Rattle.rw_kept_folder.specs.Noted.{Noted}
use Rattle.rw_kept_folder.proofs.AnewLemmas.{loaded_none, loaded_more}
use Rattle.rw_kept_folder.proofs.opened_journal.load_all.Goals as goal

pub loop-name-init : goal.loop-name-init
loop-name-init g c = record {
  loaded = loaded_none (g.T.SegmentTaker.taken c.args.taker.now) c.args.noted.now.calls c.args.last.now c.requires.nothing c.requires.none;
  fixed = refl;
}

pub loop-name-preserved : goal.loop-name-preserved
loop-name-preserved g c = record {
  loaded = loaded_more (g.T.SegmentTaker.taken c.args.taker.now) (g.T.SegmentTaker.taken c.loop-name.taker) (g.T.SegmentTaker.taken c.take.new.self) c.loop-name.noted.calls c.note.new.self.calls c.loop-name.last c.in-Ok.text c.loop-name.name-index
      c.loop-name.invariant.loaded (ap (λ (n : Noted). n.calls) c.note.ensures ∙ ap (λ (b : List ℕ). c.loop-name.noted.calls ++ Load b ∷ []) (c.of.ensures ∙ c.deref.ensures.value)) (c.in_ok-take-in-Ok.ensures.taken ∙ ap (λ (b : List ℕ). g.T.SegmentTaker.taken c.loop-name.taker ++ b ∷ []) c.deref-in-Ok.ensures.value);
  fixed = c.in_ok-take-in-Ok.ensures.fixed ∙ c.loop-name.invariant.fixed;
}
