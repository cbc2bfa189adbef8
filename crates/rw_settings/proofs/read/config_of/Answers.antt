use Rattle.std.proofs.Common.{◌≡◌, true}
use Rattle.rw_shard_core.specs.Configs.{is_ordered}
use Rattle.rw_settings.proofs.DocumentLemmas.{in_order}
use Rattle.rw_settings.proofs.read.config_of.Goals as goal

pub unreachable-requires : goal.unreachable-requires
unreachable-requires c =
    let ordered : is_ordered c.in_ok-send_fields.field-0 ≡ true = rw c.in_ok-send_fields.ensures (in_order _ _ c.requires) in
    let some = rw ordered at c.new.ensures in
    cc
