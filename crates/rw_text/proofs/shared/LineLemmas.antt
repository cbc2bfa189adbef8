-- The parts of a line are separated by single spaces.
use Rattle.std.proofs.Common.{◌≡◌, ◌<◌, ◌^◌, ◌==◌, ℕ, ℤ, List, [], ◌∷◌, ◌++◌, drop, All, false, codes, refl, sym, ap, ◌∙◌, subst, inl, inr, arith, ne_eqb, FitsSigned, w64, append_assoc}
use Rattle.std.proofs.Math.ListN.{get_or}
use Rattle.std.proofs.lemmas.List.Elements.{All-nil, All-cons}
use Rattle.std.proofs.lemmas.Str.Parse.{digit_from_value}
use Rattle.std.specs.Str.Parse.{AllDigits}
use Rattle.rw_types.specs.Labels.{Labels}
use Rattle.rw_text.specs.LabelText.{labels_text}
use Rattle.rw_text.specs.LineText.{Line, series, sample, raw, IsSeriesLine, IsSampleLine, IsRaw, IsLine}
use Rattle.rw_text.specs.Numbers.{IsNumber, IsInteger}
use Rattle.rw_text.specs.ValueText.{IsValue}
use Rattle.rw_text.proofs.shared.SplitLemmas.{split_unique}
use Rattle.rw_text.specs.RecordLines.{lines}

abbrev pub NoSpace : List ℕ → Type 0
NoSpace text = All (λ b. (b == 32) ≡ false) text

digits_without_space : (text : List ℕ) → AllDigits 10 text → NoSpace text
digits_without_space [] h = All-nil (λ b. (b == 32) ≡ false)
digits_without_space (c ∷ cs) h =
    let range = digit_from_value c h.0 in
    All-cons (λ b. (b == 32) ≡ false) c cs (ne_eqb c 32 (λ e. omega (arith, range.0))) (digits_without_space cs h.1)

pub number_without_space : (text : List ℕ) (n : ℕ) → IsNumber text n → NoSpace text
number_without_space text n h = digits_without_space text h.digits.1

pub integer_without_space : (text : List ℕ) (z : ℤ) → IsInteger text z → NoSpace text
integer_without_space text z (inl (n, is, e)) = number_without_space text n is
integer_without_space text z (inr (n, digits, e, is, f)) = rw e (All-cons (λ b. (b == 32) ≡ false) 45 digits refl (number_without_space digits n is))

-- ---- a definition

pub series_parts : (text front rest : List ℕ) (reference : ℕ) (labels : Labels) → text ≡ front ++ 32 ∷ rest → NoSpace front → (s : IsSeriesLine text reference labels)
    → IsNumber front reference × (rest ≡ labels_text labels)
series_parts text front rest reference labels e none s =
    let p = split_unique 32 s.number front (labels_text labels) rest (number_without_space s.number reference s.is_number) none (sym s.parts ∙ e) in
    (subst (λ (x : List ℕ). IsNumber x reference) p.0 s.is_number, sym p.1)

pub no_series_number : (text front rest : List ℕ) → text ≡ front ++ 32 ∷ rest → NoSpace front → ((n : ℕ) → n < 2 ^ 64 → IsNumber front n → ⊥)
    → (reference : ℕ) (labels : Labels) → IsSeriesLine text reference labels → ⊥
no_series_number text front rest e none bad reference labels s = bad reference s.fits (series_parts text front rest reference labels e none s).0

pub no_series_labels : (text front rest : List ℕ) → text ≡ front ++ 32 ∷ rest → NoSpace front → ((ls : Labels) → rest ≡ labels_text ls → ⊥)
    → (reference : ℕ) (labels : Labels) → IsSeriesLine text reference labels → ⊥
no_series_labels text front rest e none bad reference labels s = bad labels (series_parts text front rest reference labels e none s).1

-- ---- a sample

pub record SampleParts (front rest : List ℕ) (reference : ℕ) (t : ℤ) (word : ℕ) : Type 0 where
  pub is_number : IsNumber front reference
  pub time : List ℕ
  pub value : List ℕ
  pub behind : rest ≡ time ++ 32 ∷ value
  pub is_integer : IsInteger time t
  pub is_value : IsValue value word

pub sample_parts : (text front rest : List ℕ) (reference : ℕ) (t : ℤ) (word : ℕ) → text ≡ front ++ 32 ∷ rest → NoSpace front → IsSampleLine text reference t word
    → SampleParts front rest reference t word
sample_parts text front rest reference t word e none s =
    let p = split_unique 32 s.number front (s.time ++ 32 ∷ s.value) rest (number_without_space s.number reference s.is_number) none (sym s.parts ∙ e) in
    record {
      is_number = subst (λ (x : List ℕ). IsNumber x reference) p.0 s.is_number;
      time = s.time;
      value = s.value;
      behind = sym p.1;
      is_integer = s.is_integer;
      is_value = s.is_value;
    }

pub time_parts : (front rest time value : List ℕ) (reference : ℕ) (t : ℤ) (word : ℕ) → rest ≡ time ++ 32 ∷ value → NoSpace time → SampleParts front rest reference t word
    → IsInteger time t × IsValue value word
time_parts front rest time value reference t word e none s =
    let p = split_unique 32 s.time time s.value value (integer_without_space s.time t s.is_integer) none (sym s.behind ∙ e) in
    (subst (λ (x : List ℕ). IsInteger x t) p.0 s.is_integer, subst (λ (x : List ℕ). IsValue x word) p.1 s.is_value)

abbrev pub NoSample : List ℕ → Type 0
NoSample text = (reference : ℕ) (t : ℤ) (word : ℕ) → IsSampleLine text reference t word → ⊥

pub no_sample : (text : List ℕ) → ((front rest : List ℕ) → text ≡ front ++ 32 ∷ rest → ⊥) → NoSample text
no_sample text none reference t word s = none s.number (s.time ++ 32 ∷ s.value) s.parts

pub no_sample_time : (text front rest : List ℕ) → text ≡ front ++ 32 ∷ rest → NoSpace front → ((time value : List ℕ) → rest ≡ time ++ 32 ∷ value → ⊥) → NoSample text
no_sample_time text front rest e none bad reference t word s = let p = sample_parts text front rest reference t word e none s in bad p.time p.value p.behind

pub no_sample_number : (text front rest : List ℕ) → text ≡ front ++ 32 ∷ rest → NoSpace front → ((n : ℕ) → n < 2 ^ 64 → IsNumber front n → ⊥) → NoSample text
no_sample_number text front rest e none bad reference t word s = bad reference s.fits (sample_parts text front rest reference t word e none s).is_number

pub no_sample_integer : (text front rest time value : List ℕ) → text ≡ front ++ 32 ∷ rest → NoSpace front → rest ≡ time ++ 32 ∷ value → NoSpace time
    → ((z : ℤ) → FitsSigned w64 z → IsInteger time z → ⊥) → NoSample text
no_sample_integer text front rest time value e none f clear bad reference t word s =
    bad t s.time_fits (time_parts front rest time value reference t word f clear (sample_parts text front rest reference t word e none s)).0

pub no_sample_value : (text front rest time value : List ℕ) → text ≡ front ++ 32 ∷ rest → NoSpace front → rest ≡ time ++ 32 ∷ value → NoSpace time
    → ((w : ℕ) → w < 2 ^ 64 → IsValue value w → ⊥) → NoSample text
no_sample_value text front rest time value e none f clear bad reference t word s =
    bad word s.word_fits (time_parts front rest time value reference t word f clear (sample_parts text front rest reference t word e none s)).1

-- ---- the first word

apart : (n b c : ℕ) (x y : List ℕ) → x ≡ y → get_or x n 0 ≡ b → get_or y n 0 ≡ c → (b ≡ c → ⊥) → ⊥
apart n b c x y e f g ne = ne (sym f ∙ ap (λ (t : List ℕ). get_or t n 0) e ∙ g)

pub series_no_sample : (x y : List ℕ) → codes "series " ++ x ≡ codes "sample " ++ y → ⊥
series_no_sample x y e = apart 1 101 97 (codes "series " ++ x) (codes "sample " ++ y) e refl refl (λ h. omega (arith, h))

pub raw_no_sample : (x y : List ℕ) → codes "raw " ++ x ≡ codes "sample " ++ y → ⊥
raw_no_sample x y e = apart 0 114 115 (codes "raw " ++ x) (codes "sample " ++ y) e refl refl (λ h. omega (arith, h))

pub raw_no_series : (x y : List ℕ) → codes "raw " ++ x ≡ codes "series " ++ y → ⊥
raw_no_series x y e = apart 0 114 115 (codes "raw " ++ x) (codes "series " ++ y) e refl refl (λ h. omega (arith, h))

pub not_sample : (text rest : List ℕ) → text ≡ codes "sample " ++ rest → NoSample rest → (said : Line) → IsLine text said → ⊥
not_sample text rest e none (series r ls) l = series_no_sample l.says.0 rest (sym l.says.1 ∙ e)
not_sample text rest e none (sample r t w) l =
    let same : l.says.0 ≡ rest = ap (drop 7) (sym l.says.1 ∙ e) in
    none r t w (subst (λ (x : List ℕ). IsSampleLine x r t w) same l.says.2)
not_sample text rest e none (raw bytes) l = raw_no_sample l.says.0 rest (sym l.says.1 ∙ e)

pub not_series : (text rest : List ℕ) → text ≡ codes "series " ++ rest → ((r : ℕ) (ls : Labels) → IsSeriesLine rest r ls → ⊥) → (said : Line) → IsLine text said → ⊥
not_series text rest e none (series r ls) l =
    let same : l.says.0 ≡ rest = ap (drop 7) (sym l.says.1 ∙ e) in
    none r ls (subst (λ (x : List ℕ). IsSeriesLine x r ls) same l.says.2)
not_series text rest e none (sample r t w) l = series_no_sample rest l.says.0 (sym e ∙ l.says.1)
not_series text rest e none (raw bytes) l = raw_no_series l.says.0 rest (sym l.says.1 ∙ e)

pub not_raw : (text rest : List ℕ) → text ≡ codes "raw " ++ rest → ((bytes : List ℕ) → IsRaw rest bytes → ⊥) → (said : Line) → IsLine text said → ⊥
not_raw text rest e none (series r ls) l = raw_no_series rest l.says.0 (sym e ∙ l.says.1)
not_raw text rest e none (sample r t w) l = raw_no_sample rest l.says.0 (sym e ∙ l.says.1)
not_raw text rest e none (raw bytes) l =
    let same : l.says.0 ≡ rest = ap (drop 4) (sym l.says.1 ∙ e) in
    none bytes (subst (λ (x : List ℕ). IsRaw x bytes) same l.says.2)

-- one line more
pub next_parts : (text rest line more : List ℕ) (front : List (List ℕ)) → lines text ≡ front ++ lines rest → lines rest ≡ line ∷ lines more → lines text ≡ (front ++ line ∷ []) ++ lines more
next_parts text rest line more front e f = e ∙ ap (λ (t : List (List ℕ)). front ++ t) f ∙ sym (append_assoc front (line ∷ []) (lines more))
