use Rattle.rw_roundtrip.proofs.shared.AddedRequests.{added_block}
use Rattle.rw_roundtrip.proofs.field_laws.snappy_requests_with_fields_are_read.Goals as goal

pub returns : goal.returns
returns c host path block body fields intake h p extra few on fits holds within =
    added_block host path block fields intake h p extra few c.limit_only_refuses.ensures.same body on fits holds within
