-- A segment, piece by piece.
use Rattle.std.proofs.Common.{◌≡◌, ℕ, ◌+◌, List, [], ◌∷◌, ◌++◌, length, false, Bool, true, Option, Some, None, refl, sym, ap, ◌∙◌, subst, append_assoc, append-nil, length-append, arith}
use Rattle.std.specs.Prelude.{IsSome, is_some, take}
use Rattle.rw_follow.specs.Meals.{Meal, with_piece}
use Rattle.rw_types.specs.Beginnings.{Begins}
use Rattle.rw_types.specs.declared.entry.Entry.{Entry}
use Rattle.rw_wal_format.specs.Pieces.{Piece, bytes, next_segment, may_compress, page_size, reading, compresses_after, reading_in, then_next}
use Rattle.rw_wal_format.specs.Segments.{segment_in}
use Rattle.rw_wal_format.specs.declared.tail_fault.TailFault.{TailFault}
use Rattle.rw_wal_tail.specs.Fed.{Fed}
use Rattle.rw_wal_tail.specs.Taking.{HasTaken, HasTakenAll, TakesAll}
use Rattle.rw_log_read.specs.declared.segment_text.TextRead.{TextRead}
use Rattle.rw_log_read.specs.inner.Reading.{AreFed, FeedsMore, GivesMore, HasFed, ReadsText}
use Rattle.rw_wal_format.proofs.shared.Growing.{cuts_after}

-- what was taken grows
pub begins_none : (es : List Entry) → Begins es es
begins_none es = ([], sym (append-nil es))

pub begins_begins : (a b c : List Entry) → Begins a b → Begins b c → Begins a c
begins_begins a b c g h = (g.0 ++ h.0, h.1 ∙ ap (λ es. es ++ h.0) g.1 ∙ append_assoc a g.0 h.0)

-- all entries that were left were taken, after those that were taken before
pub takes_grow : (at now : Fed) (mid after : List Entry) (found : Option TailFault) → TakesAll at now mid after found → Begins mid after
takes_grow at now mid after found all = (all.more, all.grows)

pub all_taken : (at now : Fed) (mid after : List Entry) (found : Option TailFault) → TakesAll at now mid after found → HasTaken at mid → HasTakenAll now after found
all_taken at now mid after found all h = subst (λ (es : List Entry). HasTakenAll now es found) (sym all.grows) (all.all mid h)

-- ---- what was read of a log

pub gives_none : {Start : Type 0} (old new : Start → Meal → Type 0) → ((start : Start) (meal : Meal) → old start meal → new start meal) → GivesMore old new []
gives_none {Start} old new stays start meal h =
    subst (λ (bs : List ℕ). new start (record { whole = meal.whole; begun = bs })) (sym (append-nil meal.begun)) (stays start meal h)

pub gives_more : {Start : Type 0} (a b c : Start → Meal → Type 0) (x y : List ℕ) → GivesMore a b x → GivesMore b c y → GivesMore a c (x ++ y)
gives_more {Start} a b c x y g h start meal is =
    subst (λ (bs : List ℕ). c start (record { whole = meal.whole; begun = bs })) (append_assoc meal.begun x y) (h start (with_piece meal x) (g start meal is))

pub gives_still : {Start : Type 0} (a b c : Start → Meal → Type 0) (x : List ℕ) → GivesMore a b x → ((start : Start) (meal : Meal) → b start meal → c start meal) → GivesMore a c x
gives_still {Start} a b c x g h start meal is = h start (with_piece meal x) (g start meal is)

-- a read that gives nothing
pub gives_end : {Start : Type 0} (old new : Start → Meal → Type 0) (buf : List ℕ) (n : ℕ) → n ≡ 0 → ((start : Start) (meal : Meal) → old start meal → new start (with_piece meal (take n buf))) → GivesMore old new []
gives_end {Start} old new buf n none gives start meal h = subst (λ (k : ℕ). new start (with_piece meal (take k buf))) none (gives start meal h)

-- ---- pieces

empty_piece : (c : Bool) (page : ℕ) (text : List ℕ) (old later : List Piece) → reading_in c page text (old ++ later) ≡ reading_in c page text (old ++ bytes [] ∷ later)
empty_piece c page text [] later = ap (λ x. reading_in c page x later) (sym (append-nil text))
empty_piece c page text (bytes b ∷ old) later = empty_piece c page (text ++ b) old later
empty_piece c page text (next_segment ∷ old) later = ap (then_next (segment_in c page text)) (empty_piece c page [] old later)
empty_piece c page text (may_compress ∷ old) later = empty_piece (compresses_after c text) page text old later

fed-none : (ps : List Piece) → AreFed ps [] ps
unfolding reading
fed-none ps later = empty_piece false page_size [] ps later

fed-more : (old new : List Piece) (text b : List ℕ) → AreFed old text new → AreFed old (text ++ b) (new ++ bytes b ∷ [])
unfolding reading
fed-more old new text b h later = rw (append_assoc new (bytes b ∷ []) later) (h (bytes b ∷ later) ∙ cuts_after false page_size [] old text b later)

-- before the first piece
pub has_fed-none : {Start : Type 0} (gave : Start → Meal → Type 0) (t : Fed) (taken : List Entry) → HasTaken t taken → HasFed gave gave t t taken taken 0
has_fed-none {Start} gave t taken h = record {
  text = [];
  read = gives_none gave gave (λ start meal is. is);
  counted = refl;
  same = fed-none t.pieces;
  taken = h;
  begins = begins_none taken;
}

-- one more piece
pub has_fed-more : {Start : Type 0} (a b c : Start → Meal → Type 0) (t at now new : Fed) (before mid after : List Entry) (found : Option TailFault) (n more sum : ℕ) → HasFed a b t at before mid n → TakesAll at now mid after found
    → now.pieces ≡ at.pieces → FeedsMore b c now new more → sum ≡ n + more → HasFed a c t new before after sum
has_fed-more {Start} a b c t at now new before mid after found n more sum h all still fed up =
    let pieces : new.pieces ≡ at.pieces ++ bytes fed.text ∷ [] = ap (λ (x : Fed). x.pieces) fed.fed ∙ ap (λ ps. ps ++ bytes fed.text ∷ []) still in
    let len = length-append h.text fed.text in
    record {
      text = h.text ++ fed.text;
      read = gives_more a b c h.text fed.text h.read fed.read;
      counted = omega (arith, up, h.counted, fed.counted, len);
      same = subst (AreFed t.pieces (h.text ++ fed.text)) (sym pieces) (fed-more t.pieces at.pieces h.text fed.text h.same);
      taken = fed.still after (all_taken at now mid after found all h.taken).taken_all;
      begins = begins_begins before mid after h.begins (takes_grow at now mid after found all);
    }

-- nothing is left for now
pub has_fed-end : {Start : Type 0} (a b c : Start → Meal → Type 0) (t at now new : Fed) (before mid after : List Entry) (found : Option TailFault) (n : ℕ) → HasFed a b t at before mid n → TakesAll at now mid after found
    → now.pieces ≡ at.pieces → GivesMore b c [] → new ≡ now → HasFed a c t new before after n
has_fed-end {Start} a b c t at now new before mid after found n h all same none still = rw still record {
  text = h.text;
  read = subst (GivesMore a c) (append-nil h.text) (gives_more a b c h.text [] h.read none);
  counted = h.counted;
  same = subst (AreFed t.pieces h.text) (sym same) h.same;
  taken = (all_taken at now mid after found all h.taken).taken_all;
  begins = begins_begins before mid after h.begins (takes_grow at now mid after found all);
}

-- it was looked for a next segment
pub has_fed-look : {Start : Type 0} (a b c : Start → Meal → Type 0) (t at : Fed) (before mid : List Entry) (n : ℕ) → HasFed a b t at before mid n → ((start : Start) (meal : Meal) → b start meal → c start meal) → HasFed a c t at before mid n
has_fed-look {Start} a b c t at before mid n h stays = record {
  text = h.text;
  read = gives_still a b c h.text h.read stays;
  counted = h.counted;
  same = h.same;
  taken = h.taken;
  begins = h.begins;
}

-- ---- how far a segment was read

-- at a fault
pub is_faulty : (found : Option TailFault) → is_some found ≡ true → found ≡ None → ⊥
is_faulty None faulty none = let no : false ≡ true = faulty in absurd cc
is_faulty (Some f) faulty none = absurd cc

pub reads_to_fault : {Start : Type 0} (past_fault : Bool) (a b all_had : Start → Meal → Type 0) (is_read is_followed : Type 0) (t at now : Fed) (before mid after : List Entry) (read : TextRead) → HasFed a b t at before mid read.bytes
    → TakesAll at now mid after read.fault → now.pieces ≡ at.pieces → is_some read.fault ≡ true → past_fault ≡ false → ReadsText past_fault a b all_had is_read is_followed t now before after read
reads_to_fault {Start} past_fault a b all_had is_read is_followed t at now before mid after read h all same faulty stops = record {
  text = h.text;
  is = record {
    read = h.read;
    last = λ none other. absurd (is_faulty read.fault faulty none);
    next = λ none other. absurd (is_faulty read.fault faulty none);
    ended = λ past some. let no : true ≡ false = sym past ∙ stops in absurd cc;
  };
  counted = h.counted;
  same = subst (AreFed t.pieces h.text) (sym same) h.same;
  all = all_taken at now mid after read.fault all h.taken;
  begins = begins_begins before mid after h.begins (takes_grow at now mid after read.fault all);
}

-- at the end of the segment, which is followed or has a fault
pub reads_to_end : {Start : Type 0} (past_fault : Bool) (a b c all_had : Start → Meal → Type 0) (is_read is_followed : Type 0) (t at now new : Fed) (before mid after : List Entry) (read : TextRead) → HasFed a b t at before mid read.bytes
    → TakesAll at now mid after read.fault → now.pieces ≡ at.pieces → GivesMore b c [] → new ≡ now → is_read → (read.is_followed ≡ true → is_followed) → (read.fault ≡ None → read.is_followed ≡ false → ⊥)
    → ReadsText past_fault a c all_had is_read is_followed t new before after read
reads_to_end {Start} past_fault a b c all_had is_read is_followed t at now new before mid after read h all same none still at_end followed other =
    let fed = has_fed-end a b c t at now new before mid after read.fault read.bytes h all same none still in
    record {
      text = fed.text;
      is = record {
        read = fed.read;
        last = λ sound last. absurd (other sound last);
        next = λ sound next. (at_end, followed next);
        ended = λ past some. at_end;
      };
      counted = fed.counted;
      same = fed.same;
      all = subst (λ (x : Fed). HasTakenAll x after read.fault) (sym still) (all_taken at now mid after read.fault all h.taken);
      begins = fed.begins;
    }

-- at the end of the log
pub reads_to_last : {Start : Type 0} (past_fault : Bool) (a b c d all_had : Start → Meal → Type 0) (is_read is_followed : Type 0) (t at now new : Fed) (before mid after : List Entry) (read : TextRead)
    → HasFed a b t at before mid read.bytes → TakesAll at now mid after read.fault → now.pieces ≡ at.pieces → GivesMore b c [] → new ≡ now → read.fault ≡ None → read.is_followed ≡ false
    → ((start : Start) (meal : Meal) → c start meal → d start meal) → ((start : Start) (meal : Meal) → c start meal → all_had start meal) → ReadsText past_fault a d all_had is_read is_followed t new before after read
reads_to_last {Start} past_fault a b c d all_had is_read is_followed t at now new before mid after read h all same none still sound last stays had =
    let fed = has_fed-end a b c t at now new before mid after read.fault read.bytes h all same none still in
    record {
      text = fed.text;
      is = record {
        read = gives_still a c d fed.text fed.read stays;
        last = λ s l. gives_still a c all_had fed.text fed.read had;
        next = λ s next. let no : false ≡ true = sym last ∙ next in absurd cc;
        ended = λ past some. absurd (none_some read.fault sound some);
      };
      counted = fed.counted;
      same = fed.same;
      all = subst (λ (x : Fed). HasTakenAll x after read.fault) (sym still) (all_taken at now mid after read.fault all h.taken);
      begins = fed.begins;
    }
  where
    none_some : (found : Option TailFault) → found ≡ None → IsSome found → ⊥
    none_some None is some = let no : false ≡ true = some in absurd cc
    none_some (Some f) is some = absurd cc

-- a piece that was read and fed
pub feeds_more : {Start : Type 0} (a b : Start → Meal → Type 0) (before after : Fed) (text : List ℕ) (n : ℕ) → GivesMore a b text → n ≡ length text → after ≡ record before { pieces = before.pieces ++ bytes text ∷ [] }
    → ((taken : List Entry) → HasTaken before taken → HasTaken after taken) → FeedsMore a b before after n
feeds_more {Start} a b before after text n read counted fed still = record { text = text; read = read; counted = counted; fed = fed; still = still }
