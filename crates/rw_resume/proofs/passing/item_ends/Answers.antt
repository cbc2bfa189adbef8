use Rattle.std.proofs.Common.{◌≡◌, [], ◌∷◌, ◌++◌, Ok, true, false, ◌∙◌, sym, ap, subst}
use Rattle.rw_wal_format.specs.Pieces.{bytes, page_size}
use Rattle.rw_wal_format.specs.Segments.{segment_in}
use Rattle.rw_wal_tail.specs.Fed.{Fed}
use Rattle.rw_wal_tail.specs.Taking.{HasTaken}
use Rattle.rw_resume.proofs.PassingLemmas.{stops_at, no_item_ends}
use Rattle.rw_resume.proofs.passing.item_ends.Goals as goal

fed : (c : goal.After-drop-probe-inside-10) → c.feed.new.self.pieces ≡ c.args.tail.now.pieces ++ bytes (255 ∷ []) ∷ []
fed c = ap (λ (t : Fed). t.pieces) c.in_ok-feed.ensures.ok ∙ ap (λ (t : Fed). t.pieces ++ bytes (255 ∷ []) ∷ []) c.in_ok-probe.ensures

pub returns-clause-yes : goal.returns-clause-yes
returns-clause-yes c = λ e k text h.
    let is : c.is_at.result ≡ true = cc in
    let at = c.is_at.ensures.yes is in
    stops_at k text (255 ∷ []) c.args.tail.now.pieces c.take_all.new.tail.pieces c.take_all.new.tail.fault at.0 h.fed (c.take_all.ensures.pieces ∙ fed c) (sym c.fault_place.ensures.place ∙ at.1) ∙ at.2

pub returns-clause-no : goal.returns-clause-no
returns-clause-no c = λ e k text h len.
    let is : c.is_at.result ≡ false = cc in
    no_item_ends k text c.args.count c.args.tail.now c.feed.new.self c.take_all.new.tail _ _ c.in_ok-take_all.field-0 c.fault_place.result h len
    (c.in_ok-feed.ensures.taken _ (subst (λ (t : Fed). HasTaken t (segment_in k page_size text).entries) (sym c.in_ok-probe.ensures) h.taken))
    (fed c) c.take_all.ensures.pieces c.in_ok-take_all.ensures.all
    (λ f same. c.take_all.ensures.told f (c.in_ok-take_all.was ∙ ap Ok same))
    c.fault_place.ensures.place (c.is_at.ensures.no is)
