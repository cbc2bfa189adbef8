-- A reader that has come some way: what is still read of the bytes that it holds and of the pieces
-- that come later.
use Rattle.std.proofs.Common.{◌≡◌, ℕ, ◌+◌, List, [], ◌∷◌, ◌++◌, length, drop, Bool, Option, Some, None, refl, sym, ap, ◌∙◌, subst, append_assoc, append-nil}
use Rattle.std.proofs.lemmas.List.{drop-append-le}
use Rattle.rw_wal_format.specs.Records.{record_entries}
use Rattle.rw_wal_format.specs.Skipped.{skips_of}
use Rattle.rw_wal_format.specs.declared.skipped_type.SkippedType.{SkippedType}
use Rattle.rw_types.specs.declared.entry.Entry.{Entry}
use Rattle.rw_wal_format.specs.Segments.{Kind, Item, fragment, zeros, item_in, Stop, between, inside, at_fault, Reading, Record, with_entries, text_of, with_text, with_record, read_from, segment_in}
use Rattle.rw_wal_format.specs.Pieces.{Piece, bytes, next_segment, may_compress, then_after, then_next, reading_in}
use Rattle.rw_wal_format.proofs.shared.Growing.{Stays, item_in-stays}

-- pieces without `may_compress`, which changes nothing after the start of a log
abbrev pub unmarked : List Piece → List Piece
unmarked [] = []
unmarked (bytes b ∷ pieces) = bytes b ∷ unmarked pieces
unmarked (next_segment ∷ pieces) = next_segment ∷ unmarked pieces
unmarked (may_compress ∷ pieces) = unmarked pieces

-- what is read on from here, with `left` bytes of the page, a record that may be open, and `rest`
-- held, whether it may have Snappy blocks or not
abbrev pub read_on : Bool → ℕ → ℕ → Option Record → List ℕ → List Piece → Reading
read_on c page left so_far rest [] = read_from c page left so_far rest
read_on c page left so_far rest (bytes b ∷ later) = read_on c page left so_far (rest ++ b) later
read_on c page left so_far rest (next_segment ∷ later) = then_next (read_from c page left so_far rest) (read_on c page page None [] later)
read_on c page left so_far rest (may_compress ∷ later) = read_on c page left so_far rest later

-- at the start of a segment
pub read_on-start : (c : Bool) (page : ℕ) (text : List ℕ) (later : List Piece) → reading_in c page text (unmarked later) ≡ read_on c page page None text later
unfolding segment_in
read_on-start c page text [] = refl
read_on-start c page text (bytes b ∷ later) = read_on-start c page (text ++ b) later
read_on-start c page text (next_segment ∷ later) = ap (then_next (segment_in c page text)) (read_on-start c page [] later)
read_on-start c page text (may_compress ∷ later) = read_on-start c page text later

-- an item stays, and so does what follows it
pub fragment_stays_at : (c : Bool) (left : ℕ) (rest more : List ℕ) (kind : Kind) (d : List ℕ) → item_in c left rest ≡ fragment kind d
    → (item_in c left (rest ++ more) ≡ fragment kind d) × (drop (7 + length d) (rest ++ more) ≡ drop (7 + length d) rest ++ more)
unfolding Stays
fragment_stays_at c left rest more kind d e =
    let s : Stays left (length rest) (fragment kind d) (item_in c left (rest ++ more)) = subst (λ (x : Item). Stays left (length rest) x (item_in c left (rest ++ more))) e (item_in-stays c left rest more) in
    (s.2, drop-append-le (7 + length d) rest more s.0)

pub zeros_stay_at : (c : Bool) (left : ℕ) (rest more : List ℕ) → item_in c left rest ≡ zeros
    → (item_in c left (rest ++ more) ≡ zeros) × (drop left (rest ++ more) ≡ drop left rest ++ more)
unfolding Stays
zeros_stay_at c left rest more e =
    let s : Stays left (length rest) zeros (item_in c left (rest ++ more)) = subst (λ (x : Item). Stays left (length rest) x (item_in c left (rest ++ more))) e (item_in-stays c left rest more) in
    (s.1, drop-append-le left rest more s.0)

-- a record's entries come first, also of all that comes later
then_entries : (d : List ℕ) (found : Option (List Entry)) (s : Stop) (r next : Reading) → r.stop ≡ s → then_next (with_entries d found r) next ≡ with_entries d found (then_after s r next)
then_entries d None s r next e = refl
then_entries d (Some es) between r next e =
    ap (λ (s : Stop). then_after s (with_entries d (Some es) r) next) e
    ∙ ap (λ (l : List Entry). record { entries = l; skipped = (skips_of d ++ r.skipped) ++ next.skipped; stop = next.stop }) (append_assoc es r.entries next.entries)
    ∙ ap (λ (n : List SkippedType). record { entries = es ++ (r.entries ++ next.entries); skipped = n; stop = next.stop }) (append_assoc (skips_of d) r.skipped next.skipped)
then_entries d (Some es) inside r next e = ap (λ (s : Stop). then_after s (with_entries d (Some es) r) next) e
then_entries d (Some es) (at_fault f) r next e = ap (λ (s : Stop). then_after s (with_entries d (Some es) r) next) e

-- the same of what a record holds
then_text : (found : Option (List ℕ)) (r next : Reading) → then_next (with_text found r) next ≡ with_text found (then_next r next)
then_text None r next = refl
then_text (Some d) r next = then_entries d (record_entries d) r.stop r next refl

module _ (c : Bool) (page left left' : ℕ) (so_far so_far' : Option Record) where
  -- a step that gives no record
  pub read_on-step : (rest rest' : List ℕ) → ((more : List ℕ) → read_from c page left so_far (rest ++ more) ≡ read_from c page left' so_far' (rest' ++ more))
      → (later : List Piece) → read_on c page left so_far rest later ≡ read_on c page left' so_far' rest' later
  read_on-step rest rest' h [] = ap (read_from c page left so_far) (sym (append-nil rest)) ∙ h [] ∙ ap (read_from c page left' so_far') (append-nil rest')
  read_on-step rest rest' h (bytes b ∷ later) =
      read_on-step (rest ++ b) (rest' ++ b) (λ more. ap (read_from c page left so_far) (append_assoc rest b more) ∙ h (b ++ more) ∙ ap (read_from c page left' so_far') (sym (append_assoc rest' b more))) later
  read_on-step rest rest' h (next_segment ∷ later) =
      ap (λ (r : Reading). then_next r (read_on c page page None [] later)) (ap (read_from c page left so_far) (sym (append-nil rest)) ∙ h [] ∙ ap (read_from c page left' so_far') (append-nil rest'))
  read_on-step rest rest' h (may_compress ∷ later) = read_on-step rest rest' h later

  -- a step that gives the record d
  pub read_on-record : (d : Record) (rest rest' : List ℕ) → ((more : List ℕ) → read_from c page left so_far (rest ++ more) ≡ with_record d (read_from c page left' so_far' (rest' ++ more)))
      → (later : List Piece) → read_on c page left so_far rest later ≡ with_record d (read_on c page left' so_far' rest' later)
  read_on-record d rest rest' h [] =
      ap (read_from c page left so_far) (sym (append-nil rest)) ∙ h [] ∙ ap (λ (x : List ℕ). with_record d (read_from c page left' so_far' x)) (append-nil rest')
  read_on-record d rest rest' h (bytes b ∷ later) =
      read_on-record d (rest ++ b) (rest' ++ b) (λ more. ap (read_from c page left so_far) (append_assoc rest b more) ∙ h (b ++ more) ∙ ap (λ (x : List ℕ). with_record d (read_from c page left' so_far' x)) (sym (append_assoc rest' b more))) later
  read_on-record d rest rest' h (next_segment ∷ later) =
      ap (λ (r : Reading). then_next r (read_on c page page None [] later)) (ap (read_from c page left so_far) (sym (append-nil rest)) ∙ h [] ∙ ap (λ (x : List ℕ). with_record d (read_from c page left' so_far' x)) (append-nil rest'))
      ∙ then_text (text_of d) (read_from c page left' so_far' rest') (read_on c page page None [] later)
  read_on-record d rest rest' h (may_compress ∷ later) = read_on-record d rest rest' h later
