-- Log text line by line.
use Rattle.std.proofs.Common.{◌≡◌, ◌<◌, ◌≤◌, ◌+◌, ℕ, max, List, [], ◌∷◌, ◌++◌, length, refl, sym, ap, ◌∙◌, subst, arith}
use Rattle.std.proofs.lemmas.List.{length-append, append-nil}
use Rattle.rw_text.specs.RecordLines.{lines, IsRecordOf}
use Rattle.rw_log_commands.specs.LogText.{longest_of, AreRecordsOfLines, IsBadLine}
use Rattle.rw_text.proofs.shared.LineLemmas.{next_parts}

-- ---- records of lines

pub one_record : (line rec : List ℕ) → 0 < length line → IsRecordOf line rec → AreRecordsOfLines (line ∷ []) (rec ∷ [])
one_record [] rec some h = absurd (omega arith)
one_record (b ∷ bs) rec some h = (h, refl)

pub one_len : (line rec : List ℕ) → 0 < length line → IsRecordOf line rec → (recs : List (List ℕ)) × AreRecordsOfLines (line ∷ []) recs × (length rec ≡ longest_of recs)
one_len line rec some h = (rec ∷ [], one_record line rec some h, omega arith)

pub no_len : (line : List ℕ) → line ≡ [] → (recs : List (List ℕ)) × AreRecordsOfLines (line ∷ []) recs × (0 ≡ longest_of recs)
no_len line e = ([], rw e refl, refl)

pub records_join : (front : List (List ℕ)) (more : List (List ℕ)) (recs others : List (List ℕ)) → AreRecordsOfLines front recs → AreRecordsOfLines more others → AreRecordsOfLines (front ++ more) (recs ++ others)
records_join [] more recs others h i = rw h i
records_join ([] ∷ front) more recs others h i = records_join front more recs others h i
records_join ((b ∷ bs) ∷ front) more [] others h i = absurd h
records_join ((b ∷ bs) ∷ front) more (rec ∷ recs) others h i = (h.0, records_join front more recs others h.1 i)

longest-append : (recs others : List (List ℕ)) → longest_of (recs ++ others) ≡ max (longest_of recs) (longest_of others)
longest-append [] others = omega arith
longest-append (rec ∷ recs) others = let e = longest-append recs others in omega (arith, e)

-- the lines before `rest` were judged
pub record Judged (text rest : List ℕ) (number longest : ℕ) : Type 0 where
  pub front : List (List ℕ)
  pub parts : lines text ≡ front ++ lines rest
  pub place : number ≡ length front
  pub records : List (List ℕ)
  pub good : AreRecordsOfLines front records
  pub most : longest ≡ longest_of records
  pub bound : number + length rest ≤ length text

pub judged_begins : (text : List ℕ) → Judged text text 0 0
judged_begins text = record { front = []; parts = refl; place = refl; records = []; good = refl; most = refl; bound = omega arith }

pub judged_more : (text rest : List ℕ) (number longest : ℕ) (line more : List ℕ) (len later : ℕ) → Judged text rest number longest → lines rest ≡ line ∷ lines more → length more < length rest
    → (recs : List (List ℕ)) × AreRecordsOfLines (line ∷ []) recs × (len ≡ longest_of recs) → later ≡ max longest len → Judged text more (number + 1) later
judged_more text rest number longest line more len later j e shorter (recs, good, is) f = record {
  front = j.front ++ line ∷ [];
  parts = next_parts text rest line more j.front j.parts e;
  place = omega (arith, j.place, length-append j.front (line ∷ []));
  records = j.records ++ recs;
  good = records_join j.front (line ∷ []) j.records recs j.good good;
  most = omega (arith, f, is, j.most, longest-append j.records recs);
  bound = omega (arith, j.bound);
}

pub judged_bad : (text rest : List ℕ) (number longest : ℕ) (line more : List ℕ) → Judged text rest number longest → lines rest ≡ line ∷ lines more
    → (0 < length line) × ((rec : List ℕ) → IsRecordOf line rec → ⊥) → IsBadLine text (number + 1)
judged_bad text rest number longest line more j e bad = record {
  front = j.front;
  line = line;
  later = lines more;
  parts = j.parts ∙ ap (λ (t : List (List ℕ)). j.front ++ t) e;
  place = omega (arith, j.place);
  records = j.records;
  good = j.good;
  some = bad.0;
  bad = bad.1;
}

pub judged_all : (text rest : List ℕ) (number longest : ℕ) → Judged text rest number longest → rest ≡ [] → (recs : List (List ℕ)) × AreRecordsOfLines (lines text) recs × (longest ≡ longest_of recs)
judged_all text rest number longest j e =
    let whole : lines text ≡ j.front = j.parts ∙ ap (λ (t : List ℕ). j.front ++ lines t) e ∙ append-nil j.front in
    (j.records, subst (λ (ls : List (List ℕ)). AreRecordsOfLines ls j.records) (sym whole) j.good, j.most)
