use Rattle.std.proofs.Common.{subst}
use Rattle.rw_wal_format.specs.Segments.{Item}
use Rattle.rw_wal_tail.specs.LayoutItems.{IsItem}
use Rattle.rw_wal_tail.proofs.LayoutItems.{item_is, item_read}
use Rattle.rw_wal_tail.proofs.layout_laws.items_are_read.Goals as goal

pub returns : goal.returns
returns c = λ may_compress left text item l. (λ e. subst (λ (x : Item). IsItem may_compress left text x) e (item_is may_compress left text l), item_read may_compress left text item l)
