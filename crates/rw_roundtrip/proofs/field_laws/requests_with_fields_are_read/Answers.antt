use Rattle.rw_roundtrip.proofs.shared.AddedRequests.{one_added, added_refusal}
use Rattle.rw_roundtrip.proofs.field_laws.requests_with_fields_are_read.Goals as goal

pub returns-clause-read : goal.returns-clause-read
returns-clause-read c host path body fields intake h p extra few fits = one_added host path body fields intake h p extra few fits

pub returns-clause-refused : goal.returns-clause-refused
returns-clause-refused c host path body fields intake h p extra few over = added_refusal host path body fields intake h p extra few over
