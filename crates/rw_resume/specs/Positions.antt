-- The text that names a position of a log.
use Rattle.std.specs.Prelude.{◌≡◌, ℕ, List, ◌++◌, codes, decimal, string_bytes, Option, Some}
use Rattle.rw_resume.specs.declared.position.Position.{Position}

-- `NAME VALUE` and a line feed
abbrev pub line_of : List ℕ → List ℕ → List ℕ
line_of name value = name ++ codes " " ++ value ++ codes "\n"

abbrev pub position_text : Position → List ℕ
position_text p = codes "rwship position 1\n" ++ line_of (codes "log") (string_bytes p.log) ++ line_of (codes "segment") (decimal p.segment) ++ line_of (codes "bytes") (decimal p.bytes) ++ codes "end\n"

-- the text of the position after this many bytes of a segment
abbrev pub text_at : List ℕ → ℕ → ℕ → List ℕ
text_at log segment bytes = codes "rwship position 1\n" ++ line_of (codes "log") log ++ line_of (codes "segment") (decimal segment) ++ line_of (codes "bytes") (decimal bytes) ++ codes "end\n"

-- this is what the file holds if it names the segment of this number
abbrev pub Names : Option ℕ → (ℕ → List ℕ) → Option (List ℕ) → Type 0
Names number text found = (n : ℕ) × (number ≡ Some n) × (found ≡ Some (text n))
