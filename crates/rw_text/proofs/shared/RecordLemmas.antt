-- The lines of a text, and the records of lines.
use Rattle.std.proofs.Common.{◌≡◌, ◌<◌, ◌-◌, ◌*◌, ◌==◌, ℕ, List, [], ◌∷◌, ◌++◌, length, take, drop, All, false, refl, sym, ap, ◌∙◌, arith}
use Rattle.std.proofs.lemmas.List.{take_all, length-drop, nil_from_length}
use Rattle.std.proofs.lemmas.List.Elements.{All-nil, All-cons, All-head, All-tail}
use Rattle.std.proofs.Common.{ne_eqb}
use Rattle.std.specs.List.{onto_first}
use Rattle.rw_text.specs.LineText.{Line, IsLine}
use Rattle.rw_text.proofs.shared.OneLemmas.{line_one}
use Rattle.rw_text.specs.RecordLines.{lines, record_of, IsRecordOf}

abbrev NoEnd : List ℕ → Type 0
NoEnd line = All (λ b. (b == 10) ≡ false) line

-- a line, LF, and what follows
pub lines-at : (line rest : List ℕ) → NoEnd line → lines (line ++ 10 ∷ rest) ≡ line ∷ lines rest
lines-at [] rest none = refl
lines-at (b ∷ bs) rest none =
    rw (All-head (λ b. (b == 10) ≡ false) b bs none) (ap (onto_first b) (lines-at bs rest (All-tail (λ b. (b == 10) ≡ false) b bs none)))

-- the last line, without LF
lines-last : (b : ℕ) (bs : List ℕ) → NoEnd (b ∷ bs) → lines (b ∷ bs) ≡ (b ∷ bs) ∷ []
lines-last b [] none = rw (All-head (λ b. (b == 10) ≡ false) b [] none) refl
lines-last b (c ∷ cs) none =
    rw (All-head (λ b. (b == 10) ≡ false) b (c ∷ cs) none) (ap (onto_first b) (lines-last c cs (All-tail (λ b. (b == 10) ≡ false) b (c ∷ cs) none)))

no_end : (text : List ℕ) → ((front rest : List ℕ) → text ≡ front ++ 10 ∷ rest → ⊥) → NoEnd text
no_end [] none = All-nil (λ b. (b == 10) ≡ false)
no_end (b ∷ bs) none =
    All-cons (λ b. (b == 10) ≡ false) b bs (ne_eqb b 10 (λ e. none [] bs (ap (λ (x : ℕ). x ∷ bs) e)))
    (no_end bs (λ front rest e. none (b ∷ front) rest (ap (λ (t : List ℕ). b ∷ t) e)))

pub lines_of_one : (text rest : List ℕ) → 0 < length text → ((front later : List ℕ) → text ≡ front ++ 10 ∷ later → ⊥) → rest ≡ [] → lines text ≡ text ∷ lines rest
lines_of_one [] rest some none e = absurd (omega arith)
lines_of_one (b ∷ bs) rest some none e = lines-last b bs (no_end (b ∷ bs) none) ∙ ap (λ (t : List ℕ). (b ∷ bs) ∷ lines t) (sym e)

pub nothing_left : (text : List ℕ) → take (length text - length text) (drop (length text) text) ≡ []
nothing_left text =
    take_all (length text - length text) (drop (length text) text) (omega (arith, length-drop (length text) text))
    ∙ nil_from_length (drop (length text) text) (omega (arith, length-drop (length text) text))

-- a line has one record at most
pub record_one : (line rec other : List ℕ) → IsRecordOf line rec → IsRecordOf line other → rec ≡ other
record_one line rec other h i = h.is ∙ ap record_of (line_one line h.said i.said h.is_line i.is_line) ∙ sym i.is

-- so none if it is too long
pub too_long : (line : List ℕ) (said : Line) (rec : List ℕ) → IsLine line said → rec ≡ record_of said → 16 * 1024 * 1024 < length rec → (other : List ℕ) → IsRecordOf line other → ⊥
too_long line said rec is e long other h =
    let same : rec ≡ other = e ∙ ap record_of (line_one line said h.said is h.is_line) ∙ sym h.is in
    omega (arith, ap length same, h.short)
