use Rattle.rw_kept_log.proofs.ReadingLemmas.{some_told, place_is, none_is_no_place}
use Rattle.std.proofs.Common.{◌∙◌}
use Rattle.rw_kept_log.proofs.segment_read.fault_offset.Goals as goal

pub unreachable-requires : goal.unreachable-requires
unreachable-requires c = none_is_no_place c.fault_place.result _ c.in-None.is (c.fault_place.ensures.place ∙ some_told c.args.tail.now.pieces c.args.fault c.args.tail.now.fault c.requires (c.fault_place.ensures.is_fault c.args.fault c.requires))

pub returns : goal.returns
returns c = place_is c.fault_place.result c.in-Some.place _ c.in-Some.is (c.fault_place.ensures.place ∙ some_told c.args.tail.now.pieces c.args.fault c.args.tail.now.fault c.requires (c.fault_place.ensures.is_fault c.args.fault c.requires))
