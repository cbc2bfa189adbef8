-- Requests to which fields were added, at the endpoint.
use Rattle.std.proofs.Common.{◌≡◌, ◌<◌, ◌≤◌, ◌^◌, ℕ, List, ◌∷◌, length, true, false, decimal, refl, ap, ◌∙◌, Ok}
use Rattle.httparse.specs.Grammar.{trim_ows}
use Rattle.rw_types.specs.Requests.{is_host_name, is_request_path}
use Rattle.rw_fields.specs.Fields.{NameValue, AreExtra, with_fields}
use Rattle.rw_shard_core.specs.SentRequest.{request_of, snappy_request_of}
use Rattle.rw_snappy.specs.Snappy.{decoded}
use Rattle.rw_endpoint.specs.Alone.{IsOneRequest, IsOneRefusal}
use Rattle.rw_endpoint.specs.Coding.{block_text}
use Rattle.rw_endpoint.specs.declared.coding.Coding.TheVariants.{Plain, Snappy}
use Rattle.rw_endpoint.specs.declared.intake.Intake.{Intake}
use Rattle.rw_roundtrip.proofs.AddedHeads.{with_added, same_finding, begins_added}
use Rattle.rw_roundtrip.proofs.FieldLemmas.{found, asked, asked_block, too_large}
use Rattle.rw_roundtrip.proofs.Heads.{head_of}
use Rattle.rw_roundtrip.proofs.shared.RequestLemmas.{LimitSame}

module _ (host path body : List ℕ) (fields : List NameValue) (intake : Intake) (h : is_host_name host ≡ true) (p : is_request_path path ≡ true) (extra : AreExtra fields) (few : length body < 2 ^ 63) where
  pub one_added : length body ≤ intake.limit → IsOneRequest path intake (with_fields fields (request_of host path body)) body
  one_added fits = record {
    head = with_added fields (head_of false host path (decimal (length body)));
    body = body;
    coding = Plain;
    holds = refl;
    begins = begins_added false fields host path body h p extra few;
    finding = same_finding fields path intake (head_of false host path (decimal (length body))) extra
        ∙ found false host path intake (length body) few ∙ asked (trim_ows (32 ∷ host)) (decimal (length body)) intake (length body) fits;
  }

  pub added_refusal : intake.limit < length body → IsOneRefusal path intake (with_fields fields (request_of host path body)) 413
  added_refusal over = record {
    head = with_added fields (head_of false host path (decimal (length body)));
    rest = body;
    begins = begins_added false fields host path body h p extra few;
    finding = same_finding fields path intake (head_of false host path (decimal (length body))) extra
        ∙ found false host path intake (length body) few ∙ too_large false (trim_ows (32 ∷ host)) (decimal (length body)) intake (length body) over;
  }

  -- the same, where the body is a block
  pub added_block : LimitSame → (text : List ℕ) → intake.snappy ≡ true → length body ≤ intake.limit → decoded body ≡ Ok text → length text ≤ intake.limit →
      IsOneRequest path intake (with_fields fields (snappy_request_of host path body)) text
  added_block same text on fits holds within = record {
    head = with_added fields (head_of true host path (decimal (length body)));
    body = body;
    coding = Snappy intake.limit;
    holds = ap block_text (same intake.limit body text holds within);
    begins = begins_added true fields host path body h p extra few;
    finding = same_finding fields path intake (head_of true host path (decimal (length body))) extra
        ∙ found true host path intake (length body) few ∙ asked_block (trim_ows (32 ∷ host)) (decimal (length body)) intake (length body) on fits;
  }
