-- The URL of a receiver: `http://HOST[:PORT][/PATH][?QUERY]` (RFC 3986, section 3).
-- The crate `http_uri` cuts it.
use Rattle.std.specs.Prelude.{◌≡◌, ◌⊎◌, ◌<◌, ◌++◌, ◌==◌, ℕ, List, [], Option, Some, None, codes, bytes_eq, slice_index, string_bytes, if◌then◌else◌}
use Rattle.percent_encoding.specs.Percent.{percent_encode}
use Rattle.http_uri.specs.declared.uri.Uri.{Uri}
use Rattle.http_uri.specs.ByteClasses.{colon, slash, rsplit_once_back}
use Rattle.http_uri.specs.Grammar.{authority_host, or_slash}
use Rattle.http_uri.specs.Port.{HasPort, port_value}
use Rattle.http_uri.specs.Uri.{uri_authority, uri_data}
use Rattle.rw_cli.specs.declared.receiver_url.TheConstants.{ESCAPED}
use Rattle.rw_cli.specs.declared.receiver_url.ReceiverUrl.{ReceiverUrl}

-- the port that the authority has after its host, or 80 if it has none
abbrev pub IsPort : List ℕ → ℕ → Type 0
IsPort authority port =
    ((authority_host authority ≡ authority) × (port ≡ 80))
    ⊎ (HasPort authority × (0 < port) × (port ≡ port_value (rsplit_once_back colon authority)))

-- the path and the query of a request: it begins with `/`, also if the URL has a query alone, and
-- what a request's path does not have is escaped
abbrev pub in_request : List ℕ → List ℕ
in_request text = (if slice_index text 0 == slash then [] else codes "/") ++ percent_encode ESCAPED text

-- `/` alone names no path
abbrev pub path_of : List ℕ → Option (List ℕ)
path_of text = if bytes_eq text (codes "/") then None else Some (in_request text)

-- a URI with the scheme `http` names this receiver
pub record Names (uri : Uri) (r : ReceiverUrl) : Type 0 where
  pub authority : uri_authority uri ≡ Some r.authority
  pub host : string_bytes r.host ≡ authority_host r.authority
  pub port : IsPort r.authority r.port
  pub path : r.path ≡ path_of (or_slash (uri_data uri))
