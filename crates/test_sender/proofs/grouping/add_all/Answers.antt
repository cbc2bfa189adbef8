use Rattle.std.proofs.Common.{refl, pos}
use Rattle.test_sender.proofs.TwoSeries.{first_there, second_is_new, first_again}
use Rattle.test_sender.proofs.grouping.add_all.Goals as goal

pub add-requires-2 : goal.add-requires-2
add-requires-2 c =
    second_is_new 4 9 _ _ c.add.new.grouping refl refl
    (first_there 4 _ (0, pos 1) _ c.add.new.grouping c.requires c.in_ok-add.ensures.series c.in_ok-add.ensures.numbers)

pub add-requires-3 : goal.add-requires-3
add-requires-3 c =
    first_again 4 9 _ _ (0, pos 2) c.add.new.grouping c.add-2.new.grouping refl refl
    (first_there 4 _ (0, pos 1) _ c.add.new.grouping c.requires c.in_ok-add.ensures.series c.in_ok-add.ensures.numbers)
    c.in_ok-add-2.ensures.series c.in_ok-add-2.ensures.numbers
