use Rattle.std.proofs.Common.{◌≡◌, ℕ, List, ◌-◌, sym, ap, ◌∙◌, subst, arith}
use Rattle.rw_wal_format.specs.Pieces.{page_size}
use Rattle.rw_wal_format.specs.Segments.{segment_in, full}
use Rattle.rw_wal_format.specs.Writing.{frame}
use Rattle.rw_resume.specs.Goings.{EndsRecord}
use Rattle.rw_resume.proofs.FillingLemmas.{data_of, written, filler_ends, filler_none}
use Rattle.rw_resume.proofs.filling.filler.Goals as goal

whole : (c : goal.After-drop-data-2) → c.extend_from_slice-2.new.self.items ≡ frame full (data_of (c.args.len - 7 - 1))
whole c =
    written _ _ _ _ _ _ _ _ c.in_ok-data.ensures c.deref.ensures.value c.deref-2.ensures.value c.header.ensures
    c.in_ok-text.ensures.items c.in_ok-extend_from_slice.ensures.items c.in_ok-extend_from_slice-2.ensures.items

pub returns-clause-ends : goal.returns-clause-ends
returns-clause-ends c = λ k. subst (EndsRecord k page_size) (sym (whole c)) (filler_ends k (c.args.len - 7 - 1) (omega (arith, c.requires.most)))

pub returns-clause-none : goal.returns-clause-none
returns-clause-none c = λ k. ap (λ (t : List ℕ). (segment_in k page_size t).entries) (whole c) ∙ filler_none k (c.args.len - 7 - 1) (omega (arith, c.requires.most))
