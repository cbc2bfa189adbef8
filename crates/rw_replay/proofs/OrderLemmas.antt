-- The words of script lines, how they differ, and what follows them.
use Rattle.std.proofs.Common.{◌≡◌, ◌==◌, ◌^◌, ◌<◌, ◌*◌, ◌+◌, nat_lt, ℕ, List, [], ◌∷◌, ◌++◌, All, true, false, not, Option, Some, None, if◌then◌else◌, codes, refl, sym, ap, ◌∙◌, subst, inl, inr, arith}
use Rattle.std.proofs.Math.ListN.{get_or}
use Rattle.std.proofs.lemmas.List.Elements.{All-nil, All-cons}
use Rattle.std.specs.List.{list_all}
use Rattle.std.specs.Str.{IsUtf8}
use Rattle.std.proofs.lemmas.Bool.{ltb-true, not-true, and_parts}
use Rattle.std.proofs.lemmas.Str.{IsUtf8-from_ascii}
use Rattle.std.proofs.lemmas.Str.Ascii.{IsAscii-from_all}
use Rattle.rw_text.specs.HexText.{read_digits}
use Rattle.rw_text.specs.Numbers.{IsNumber}
use Rattle.rw_text.proofs.shared.LineLemmas.{number_without_space}
use Rattle.rw_text.proofs.shared.OneLemmas.{number_one}
use Rattle.rw_text.proofs.shared.SplitLemmas.{split_unique, not_without}
use Rattle.rw_text.specs.RecordLines.{IsRecordOf}
use Rattle.rw_text.proofs.shared.RecordLemmas.{record_one}
use Rattle.rw_machine.specs.declared.event.How.{How}
use Rattle.rw_machine.specs.declared.event.How.TheVariants.{Plain, Busy, OutOfMemory}
use Rattle.rw_replay.specs.declared.words.BareWord.{BareWord}
use Rattle.rw_replay.specs.declared.words.BareWord.TheVariants.{Segment, Place, Restart, Close, Kill, Settle}
use Rattle.rw_replay.specs.declared.words.NumberedWord.{NumberedWord}
use Rattle.rw_replay.specs.declared.words.NumberedWord.TheVariants.{Flush, Take, Freeze, Send, Reply, Lost, Reshard}
use Rattle.rw_replay.specs.ScriptText.{Order, logged, fed, arrives, bare, numbered, bare_text, numbered_text, how_text, word_of, IsBare, IsBehind, IsWordAnd, IsArrival, IsCount, IsOrder}

-- ---- words are text

below_all : (text : List ℕ) → list_all (λ b. nat_lt b 128) text ≡ true → All (λ b. b < 128) text
below_all [] e = All-nil (λ b. b < 128)
below_all (b ∷ bs) e =
    let p = and_parts (nat_lt b 128) (list_all (λ b. nat_lt b 128) bs) e in
    All-cons (λ b. b < 128) b bs (ltb-true b 128 p.0) (below_all bs p.1)

not_ascii : {A : Type 0} (text word : List ℕ) → ¬ (IsUtf8 text) → list_all (λ b. nat_lt b 128) word ≡ true → text ≡ word → A
not_ascii text word none ascii e = absurd (none (subst IsUtf8 (sym e) (IsUtf8-from_ascii word (IsAscii-from_all word (below_all word ascii)))))

pub no_bare_word : (text : List ℕ) → ¬ (IsUtf8 text) → (word : BareWord) → text ≡ bare_text word → ⊥
no_bare_word text none Segment e = not_ascii text (codes "segment") none refl e
no_bare_word text none Place e = not_ascii text (codes "place") none refl e
no_bare_word text none Restart e = not_ascii text (codes "restart") none refl e
no_bare_word text none Close e = not_ascii text (codes "close") none refl e
no_bare_word text none Kill e = not_ascii text (codes "kill") none refl e
no_bare_word text none Settle e = not_ascii text (codes "settle") none refl e

pub no_numbered_word : (text : List ℕ) → ¬ (IsUtf8 text) → (word : NumberedWord) → text ≡ numbered_text word → ⊥
no_numbered_word text none Flush e = not_ascii text (codes "flush") none refl e
no_numbered_word text none Take e = not_ascii text (codes "take") none refl e
no_numbered_word text none Freeze e = not_ascii text (codes "freeze") none refl e
no_numbered_word text none Send e = not_ascii text (codes "send") none refl e
no_numbered_word text none Reply e = not_ascii text (codes "reply") none refl e
no_numbered_word text none Lost e = not_ascii text (codes "lost") none refl e
no_numbered_word text none Reshard e = not_ascii text (codes "reshard") none refl e

pub no_how : (text : List ℕ) → ¬ (IsUtf8 text) → (how : How) → text ≡ how_text how → ⊥
no_how text none Plain e = not_ascii text (codes "plain") none refl e
no_how text none Busy e = not_ascii text (codes "busy") none refl e
no_how text none OutOfMemory e = not_ascii text (codes "short") none refl e

-- ---- words differ in two of their letters

letters : List ℕ → ℕ
letters text = get_or text 1 0 * 256 + get_or text 2 0

numbered_of : ℕ → Option NumberedWord
numbered_of k =
    if k == letters (codes "flush") then Some Flush
    else (if k == letters (codes "take") then Some Take
    else (if k == letters (codes "freeze") then Some Freeze
    else (if k == letters (codes "send") then Some Send
    else (if k == letters (codes "reply") then Some Reply
    else (if k == letters (codes "lost") then Some Lost
    else (if k == letters (codes "reshard") then Some Reshard
    else None))))))

bare_of : ℕ → Option BareWord
bare_of k =
    if k == letters (codes "segment") then Some Segment
    else (if k == letters (codes "place") then Some Place
    else (if k == letters (codes "restart") then Some Restart
    else (if k == letters (codes "close") then Some Close
    else (if k == letters (codes "kill") then Some Kill
    else (if k == letters (codes "settle") then Some Settle
    else None)))))

how_of : ℕ → Option How
how_of k =
    if k == letters (codes "plain") then Some Plain
    else (if k == letters (codes "busy") then Some Busy
    else (if k == letters (codes "short") then Some OutOfMemory
    else None))

numbered_again : (w : NumberedWord) → numbered_of (letters (numbered_text w)) ≡ Some w
unfolding numbered_of letters
numbered_again Flush = refl
numbered_again Take = refl
numbered_again Freeze = refl
numbered_again Send = refl
numbered_again Reply = refl
numbered_again Lost = refl
numbered_again Reshard = refl

bare_again : (w : BareWord) → bare_of (letters (bare_text w)) ≡ Some w
unfolding bare_of letters
bare_again Segment = refl
bare_again Place = refl
bare_again Restart = refl
bare_again Close = refl
bare_again Kill = refl
bare_again Settle = refl

how_again : (h : How) → how_of (letters (how_text h)) ≡ Some h
unfolding how_of letters
how_again Plain = refl
how_again Busy = refl
how_again OutOfMemory = refl

same_some : {A : Type 0} (a b : A) (o : Option A) → o ≡ Some a → o ≡ Some b → a ≡ b
same_some a b o e f = cc

numbered_word_one : (v w : NumberedWord) → numbered_text v ≡ numbered_text w → v ≡ w
numbered_word_one v w e = same_some v w (numbered_of (letters (numbered_text w))) (ap (λ (t : List ℕ). numbered_of (letters t)) (sym e) ∙ numbered_again v) (numbered_again w)

bare_word_one : (v w : BareWord) → bare_text v ≡ bare_text w → v ≡ w
bare_word_one v w e = same_some v w (bare_of (letters (bare_text w))) (ap (λ (t : List ℕ). bare_of (letters t)) (sym e) ∙ bare_again v) (bare_again w)

how_one : (g h : How) → how_text g ≡ how_text h → g ≡ h
how_one g h e = same_some g h (how_of (letters (how_text h))) (ap (λ (t : List ℕ). how_of (letters t)) (sym e) ∙ how_again g) (how_again h)

none_some : {A B : Type 0} (a : A) (o : Option A) → o ≡ None → o ≡ Some a → B
none_some a o e f = let h : None ≡ Some a = sym e ∙ f in cc

not_numbered : {A : Type 0} (text : List ℕ) (w : NumberedWord) → numbered_of (letters text) ≡ None → text ≡ numbered_text w → A
not_numbered text w none e = none_some w (numbered_of (letters (numbered_text w))) (ap (λ (t : List ℕ). numbered_of (letters t)) (sym e) ∙ none) (numbered_again w)

log_not_numbered : {A : Type 0} (w : NumberedWord) → codes "log" ≡ numbered_text w → A
unfolding numbered_of letters
log_not_numbered w e = not_numbered (codes "log") w refl e

feed_not_numbered : {A : Type 0} (w : NumberedWord) → codes "feed" ≡ numbered_text w → A
unfolding numbered_of letters
feed_not_numbered w e = not_numbered (codes "feed") w refl e

arrive_not_numbered : {A : Type 0} (w : NumberedWord) → codes "arrive" ≡ numbered_text w → A
unfolding numbered_of letters
arrive_not_numbered w e = not_numbered (codes "arrive") w refl e

log_not_feed : {A : Type 0} → codes "log" ≡ codes "feed" → A
log_not_feed e = let h : 111 ≡ 101 = ap (λ (t : List ℕ). get_or t 1 0) e in absurd (omega (arith, h))

log_not_arrive : {A : Type 0} → codes "log" ≡ codes "arrive" → A
log_not_arrive e = let h : 111 ≡ 114 = ap (λ (t : List ℕ). get_or t 1 0) e in absurd (omega (arith, h))

feed_not_arrive : {A : Type 0} → codes "feed" ≡ codes "arrive" → A
feed_not_arrive e = let h : 101 ≡ 114 = ap (λ (t : List ℕ). get_or t 1 0) e in absurd (omega (arith, h))

-- ---- no order begins with this word

pub no_log : (rest : List ℕ) → ((rec : List ℕ) → IsRecordOf rest rec → ⊥) → (o : Order) → IsWordAnd (codes "log") rest o → ⊥
no_log rest none (logged rec) (e, h) = none rec h
no_log rest none (fed bytes) (e, h) = log_not_feed e
no_log rest none (arrives request how) (e, h) = log_not_arrive e
no_log rest none (bare word) (e, h) = h
no_log rest none (numbered word n) (e, h) = log_not_numbered word e

pub no_feed : (rest : List ℕ) → ((bytes : List ℕ) → read_digits rest ≡ Some bytes → ⊥) → (o : Order) → IsWordAnd (codes "feed") rest o → ⊥
no_feed rest none (logged rec) (e, h) = log_not_feed (sym e)
no_feed rest none (fed bytes) (e, h) = none bytes h
no_feed rest none (arrives request how) (e, h) = feed_not_arrive e
no_feed rest none (bare word) (e, h) = h
no_feed rest none (numbered word n) (e, h) = feed_not_numbered word e

pub no_arrive : (rest : List ℕ) → ((request : ℕ) (how : How) → IsArrival rest request how → ⊥) → (o : Order) → IsWordAnd (codes "arrive") rest o → ⊥
no_arrive rest none (logged rec) (e, h) = log_not_arrive (sym e)
no_arrive rest none (fed bytes) (e, h) = feed_not_arrive (sym e)
no_arrive rest none (arrives request how) (e, h) = none request how h
no_arrive rest none (bare word) (e, h) = h
no_arrive rest none (numbered word n) (e, h) = arrive_not_numbered word e

pub no_other : (word rest : List ℕ) → (word ≡ codes "log" → ⊥) → (word ≡ codes "feed" → ⊥) → (word ≡ codes "arrive" → ⊥)
    → ((w : NumberedWord) (n : ℕ) → word ≡ numbered_text w → IsCount rest n → ⊥) → (o : Order) → IsWordAnd word rest o → ⊥
no_other word rest log feed arrive none (logged rec) (e, h) = log e
no_other word rest log feed arrive none (fed bytes) (e, h) = feed e
no_other word rest log feed arrive none (arrives request how) (e, h) = arrive e
no_other word rest log feed arrive none (bare w) (e, h) = h
no_other word rest log feed arrive none (numbered w n) (e, h) = none w n e h

-- ---- words have no space

abbrev pub NoSpace : List ℕ → Type 0
NoSpace text = All (λ b. (b == 32) ≡ false) text

spaceless : (text : List ℕ) → list_all (λ b. not (b == 32)) text ≡ true → NoSpace text
spaceless [] e = All-nil (λ b. (b == 32) ≡ false)
spaceless (b ∷ bs) e =
    let p = and_parts (not (b == 32)) (list_all (λ b. not (b == 32)) bs) e in
    All-cons (λ b. (b == 32) ≡ false) b bs (not-true (b == 32) p.0) (spaceless bs p.1)

bare_without_space : (w : BareWord) → NoSpace (bare_text w)
bare_without_space Segment = spaceless (codes "segment") refl
bare_without_space Place = spaceless (codes "place") refl
bare_without_space Restart = spaceless (codes "restart") refl
bare_without_space Close = spaceless (codes "close") refl
bare_without_space Kill = spaceless (codes "kill") refl
bare_without_space Settle = spaceless (codes "settle") refl

numbered_without_space : (w : NumberedWord) → NoSpace (numbered_text w)
numbered_without_space Flush = spaceless (codes "flush") refl
numbered_without_space Take = spaceless (codes "take") refl
numbered_without_space Freeze = spaceless (codes "freeze") refl
numbered_without_space Send = spaceless (codes "send") refl
numbered_without_space Reply = spaceless (codes "reply") refl
numbered_without_space Lost = spaceless (codes "lost") refl
numbered_without_space Reshard = spaceless (codes "reshard") refl

word_without_space : (o : Order) → NoSpace (word_of o)
word_without_space (logged rec) = spaceless (codes "log") refl
word_without_space (fed bytes) = spaceless (codes "feed") refl
word_without_space (arrives request how) = spaceless (codes "arrive") refl
word_without_space (bare w) = bare_without_space w
word_without_space (numbered w n) = numbered_without_space w

-- ---- the parts of a line

pub parts_of : (text word rest : List ℕ) → text ≡ word ++ 32 ∷ rest → NoSpace word → (o : Order) → IsOrder text o → IsWordAnd word rest o
parts_of text word rest e none o (inl (is_bare, is)) = absurd (not_without 32 (word_of o) word rest (word_without_space o) (sym is ∙ e))
parts_of text word rest e none o (inr (other, more, parts, both)) =
    let front : NoSpace other = subst NoSpace (sym both.0) (word_without_space o) in
    let p = split_unique 32 other word more rest front none (sym parts ∙ e) in
    (sym p.0 ∙ both.0, subst (λ (t : List ℕ). IsBehind t o) p.1 both.1)

pub no_parts : (text word rest : List ℕ) → text ≡ word ++ 32 ∷ rest → NoSpace word → ((o : Order) → IsWordAnd word rest o → ⊥) → (o : Order) → IsOrder text o → ⊥
no_parts text word rest e none bad o h = bad o (parts_of text word rest e none o h)

pub no_bare : (text : List ℕ) → ((front rest : List ℕ) → text ≡ front ++ 32 ∷ rest → ⊥) → ((word : BareWord) → text ≡ bare_text word → ⊥) → (o : Order) → IsOrder text o → ⊥
no_bare text none bad (logged rec) (inl (is_bare, e)) = is_bare
no_bare text none bad (fed bytes) (inl (is_bare, e)) = is_bare
no_bare text none bad (arrives request how) (inl (is_bare, e)) = is_bare
no_bare text none bad (bare w) (inl (is_bare, e)) = bad w e
no_bare text none bad (numbered w n) (inl (is_bare, e)) = is_bare
no_bare text none bad o (inr (word, rest, parts, both)) = none word rest parts

pub arrival_parts : (text front rest : List ℕ) (request : ℕ) (how : How) → text ≡ front ++ 32 ∷ rest → NoSpace front → IsArrival text request how
    → IsCount front request × (rest ≡ how_text how)
arrival_parts text front rest request how e none a =
    let p = split_unique 32 a.number front (how_text how) rest (number_without_space a.number request a.is_count.is_number) none (sym a.parts ∙ e) in
    (subst (λ (t : List ℕ). IsCount t request) p.0 a.is_count, sym p.1)

pub no_arrival_number : (text front rest : List ℕ) → text ≡ front ++ 32 ∷ rest → NoSpace front → ((n : ℕ) → n < 2 ^ 64 → IsNumber front n → ⊥)
    → (request : ℕ) (how : How) → IsArrival text request how → ⊥
no_arrival_number text front rest e none bad request how a =
    let p = arrival_parts text front rest request how e none a in bad request p.0.fits p.0.is_number

pub no_arrival_how : (text front rest : List ℕ) → text ≡ front ++ 32 ∷ rest → NoSpace front → ((how : How) → rest ≡ how_text how → ⊥)
    → (request : ℕ) (how : How) → IsArrival text request how → ⊥
no_arrival_how text front rest e none bad request how a = bad how (arrival_parts text front rest request how e none a).1

-- ---- a line has one order at most

count_one : (text : List ℕ) (m n : ℕ) → IsCount text m → IsCount text n → m ≡ n
count_one text m n h i = number_one text m n h.is_number i.is_number

arrival_one : (text : List ℕ) (k l : ℕ) (g h : How) → IsArrival text k g → IsArrival text l h → arrives k g ≡ arrives l h
arrival_one text k l g h a b =
    let p = arrival_parts text b.number (how_text h) k g b.parts (number_without_space b.number l b.is_count.is_number) a in
    let request : k ≡ l = count_one b.number k l p.0 b.is_count in
    let how : g ≡ h = how_one g h (sym p.1) in
    cc

behind_one : (rest : List ℕ) (o p : Order) → word_of o ≡ word_of p → IsBehind rest o → IsBehind rest p → o ≡ p
behind_one rest (logged rec) (logged other) e h i = ap logged (record_one rest rec other h i)
behind_one rest (logged rec) (fed bytes) e h i = log_not_feed e
behind_one rest (logged rec) (arrives k how) e h i = log_not_arrive e
behind_one rest (logged rec) (bare w) e h i = absurd i
behind_one rest (logged rec) (numbered w n) e h i = log_not_numbered w e
behind_one rest (fed bytes) (logged rec) e h i = log_not_feed (sym e)
behind_one rest (fed bytes) (fed other) e h i = ap fed (same_some bytes other (read_digits rest) h i)
behind_one rest (fed bytes) (arrives k how) e h i = feed_not_arrive e
behind_one rest (fed bytes) (bare w) e h i = absurd i
behind_one rest (fed bytes) (numbered w n) e h i = feed_not_numbered w e
behind_one rest (arrives k how) (logged rec) e h i = log_not_arrive (sym e)
behind_one rest (arrives k how) (fed bytes) e h i = feed_not_arrive (sym e)
behind_one rest (arrives k how) (arrives l other) e h i = arrival_one rest k l how other h i
behind_one rest (arrives k how) (bare w) e h i = absurd i
behind_one rest (arrives k how) (numbered w n) e h i = arrive_not_numbered w e
behind_one rest (bare v) p e h i = absurd h
behind_one rest (numbered v m) (logged rec) e h i = log_not_numbered v (sym e)
behind_one rest (numbered v m) (fed bytes) e h i = feed_not_numbered v (sym e)
behind_one rest (numbered v m) (arrives k how) e h i = arrive_not_numbered v (sym e)
behind_one rest (numbered v m) (bare w) e h i = absurd i
behind_one rest (numbered v m) (numbered w n) e h i =
    let word : v ≡ w = numbered_word_one v w e in
    let number : m ≡ n = count_one rest m n h i in
    cc

bare_one : (o p : Order) → IsBare o → IsBare p → word_of o ≡ word_of p → o ≡ p
bare_one (logged rec) p h i e = absurd h
bare_one (fed bytes) p h i e = absurd h
bare_one (arrives k how) p h i e = absurd h
bare_one (numbered v m) p h i e = absurd h
bare_one (bare v) (logged rec) h i e = absurd i
bare_one (bare v) (fed bytes) h i e = absurd i
bare_one (bare v) (arrives k how) h i e = absurd i
bare_one (bare v) (numbered w n) h i e = absurd i
bare_one (bare v) (bare w) h i e = ap bare (bare_word_one v w e)

pub order_one : (text : List ℕ) (o p : Order) → IsOrder text o → IsOrder text p → o ≡ p
order_one text o p (inl (h, e)) (inl (i, f)) = bare_one o p h i (sym e ∙ f)
order_one text o p (inl (h, e)) (inr (word, rest, parts, both)) = absurd (not_without 32 (word_of o) word rest (word_without_space o) (sym e ∙ parts))
order_one text o p (inr (word, rest, parts, both)) i =
    let q = parts_of text word rest parts (subst NoSpace (sym both.0) (word_without_space o)) p i in
    behind_one rest o p (sym both.0 ∙ q.0) both.1 q.1
