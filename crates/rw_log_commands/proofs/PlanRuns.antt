-- Runs of the command `plan`.
use Rattle.std.proofs.Common.{◌≡◌, ◌⊎◌, inl, inr, ℕ, ◌≤◌, List, [], ◌∷◌, length, take, ◌++◌, Bool, true, false, Option, None, Some, Result, Ok, Err, refl, sym, ◌∙◌, ap, subst, append-nil}
use Rattle.std.specs.Result.{OnOk}
use Rattle.std.specs.Io.KnownBytes.{Appends, Consumes, IsAtEnd}
use Rattle.std.proofs.KnownBytes.{Consumes-nil}
use Rattle.rw_follow.specs.Meals.{Meal, no_meal}
use Rattle.rw_follow.specs.Queues.{MayFailAlone}
use Rattle.rw_external_labels.specs.External.{labelled}
use Rattle.rw_types.specs.Labels.{Labels}
use Rattle.rw_types.specs.declared.entry.Entry.{Entry}
use Rattle.rw_types.specs.declared.transfer.ReadFault.TheVariants.{Failed}
use Rattle.rw_wal_format.specs.Pieces.{fault}
use Rattle.rw_wal_format.specs.declared.tail_fault.TailFault.{TailFault}
use Rattle.rw_text.specs.HexText.{read_text}
use Rattle.rw_relabel.specs.declared.choice.Choice.{Choice}
use Rattle.rw_log_read.specs.Logs.{log_in}
use Rattle.rw_log_commands.specs.Plan.{plan_text}
use Rattle.rw_log_commands.specs.Planning.{PlansLog, PlansLogPart, WritesPlan, WritesPlanPart}
use Rattle.rw_log_commands.specs.Running.{ReadsFault, ReadsInput}
use Rattle.rw_log_commands.specs.Taking.{CannotRead, ReadsWhole}
use Rattle.rw_log_commands.specs.inner.Taking.{ReadsSegment, all_of_one, of_one}
use Rattle.rw_log_commands.proofs.TakingLemmas.{whole_segment}

-- bytes that are read are an input that stands for itself
pub bytes_read : (c : Bool) (left_before left_after : Option (List ℕ)) (segment : List ℕ) → ReadsSegment c None left_before left_after segment → ReadsInput false c None left_before left_after segment
bytes_read c left_before left_after segment h = record {
  input = segment;
  read = h.read;
  ended = h.ended;
  stands = refl;
  faulty = h.faulty;
}

-- what was made of a log was written, or a prefix of it
pub plan_written : (choice now : Choice) (external added : Labels) (c : Bool) (gave had_all : Meal → Type 0) (before after : Option (List ℕ)) (taken : List Entry) (plan written : List ℕ)
    → ReadsWhole c gave had_all taken → ◌≡◌ {A = Choice × Labels} (now, added) (choice, external) → plan ≡ plan_text now (labelled added taken) → written ≡ plan → Appends before after written → PlansLog choice external c gave had_all before after
plan_written choice now external added c gave had_all before after taken plan written h same is out a =
    record { entries = taken; read = h; written = subst (Appends before after) (out ∙ is ∙ ap (λ (k : Choice × Labels). plan_text k.0 (labelled k.1 taken)) same) a }

pub plan_cut : (choice now : Choice) (external added : Labels) (c : Bool) (gave had_all : Meal → Type 0) (before after : Option (List ℕ)) (taken : List Entry) (plan written : List ℕ)
    → ReadsWhole c gave had_all taken → ◌≡◌ {A = Choice × Labels} (now, added) (choice, external) → plan ≡ plan_text now (labelled added taken) → written ≡ plan → (n : ℕ) × (n ≤ length written) × Appends before after (take n written) → PlansLogPart choice external c gave had_all before after
plan_cut choice now external added c gave had_all before after taken plan written h same is out a =
    let made = out ∙ is ∙ ap (λ (k : Choice × Labels). plan_text k.0 (labelled k.1 taken)) same in
    record { entries = taken; read = h; count = a.0; within = subst (λ p. a.0 ≤ length p) made a.1; written = subst (λ p. Appends before after (take a.0 p)) made a.2 }

-- the same of a log of one segment, of which nothing was read before
pub begins_one : (a : Option (List ℕ)) → of_one a a no_meal
begins_one a = (Consumes-nil a, refl)

pub plans_segment : (choice : Choice) (external : Labels) (c : Bool) (a b before after : Option (List ℕ)) → PlansLog choice external c (of_one a b) (all_of_one a b) before after → WritesPlan choice external false c a b before after
plans_segment choice external c a b before after h =
    let s = whole_segment c a b h.entries h.read in
    (s.0, bytes_read c a b s.0 s.1, subst (Appends before after) (ap (λ es. plan_text choice (labelled external es)) s.2) h.written)

plans_segment_part : (choice : Choice) (external : Labels) (c : Bool) (a b before after : Option (List ℕ)) → PlansLogPart choice external c (of_one a b) (all_of_one a b) before after → WritesPlanPart choice external false c a b before after
plans_segment_part choice external c a b before after h =
    let s = whole_segment c a b h.entries h.read in
    let made = ap (λ es. plan_text choice (labelled external es)) s.2 in
    (s.0, bytes_read c a b s.0 s.1, (h.count, subst (λ p. h.count ≤ length p) made h.within, subst (λ p. Appends before after (take h.count p)) made h.written))

-- a device failed
pub plan_failed : (choice : Choice) (external : Labels) (c : Bool) (a b before after : Option (List ℕ)) (sure failed : Bool) (same cut : Type 0)
    → (CannotRead (MayFailAlone sure Failed) (failed ≡ true) (λ _. ⊥) × same) ⊎ (cut × ((start : Option (List ℕ)) → of_one start a no_meal → PlansLogPart choice external c (of_one start b) (all_of_one start b) before after))
    → ((sure ≡ true → ⊥) × (failed ≡ true) × same) ⊎ (cut × WritesPlanPart choice external false c a b before after)
plan_failed choice external c a b before after sure failed same cut (inl (inl may, still)) = inl (may.0, may.1, still)
plan_failed choice external c a b before after sure failed same cut (inl (inr lacks, still)) = absurd lacks.1
plan_failed choice external c a b before after sure failed same cut (inr h) = inr (h.0, plans_segment_part choice external c a b before after (h.1 a (begins_one a)))

-- bytes in memory that are read to their end
whole_bytes : (held segment : List ℕ) (after : Option (List ℕ)) → Consumes (Some held) after segment → IsAtEnd after → segment ≡ held
whole_bytes held segment None read ended = absurd read
whole_bytes held segment (Some rest) read ended = sym (read ∙ ap (λ r. segment ++ r) ended ∙ append-nil segment)

-- digits that were read stand for the segment in memory
digits_read : (c : Bool) (has : Option TailFault) (a b : Option (List ℕ)) (text held segment : List ℕ) → Consumes a b text → IsAtEnd b → read_text text ≡ Ok held → segment ≡ held → fault (log_in c (segment ∷ [])) ≡ has → ReadsInput true c has a b segment
digits_read c has a b text held segment read ended stands is faulty = record {
  input = text;
  read = read;
  ended = ended;
  stands = stands ∙ ap (λ s. Ok s) (sym is);
  faulty = faulty;
}

pub stands_for : (text seen held slice : List ℕ) → read_text seen ≡ Ok held → seen ≡ text → slice ≡ held → read_text text ≡ Ok slice
stands_for text seen held slice stands same is = ap read_text (sym same) ∙ stands ∙ ap (λ s. Ok s) (sym is)

pub plans_digits : (choice : Choice) (external : Labels) (c : Bool) (a b left before after : Option (List ℕ)) (text held : List ℕ) → Consumes a b text → IsAtEnd b → read_text text ≡ Ok held → WritesPlan choice external false c (Some held) left before after → WritesPlan choice external true c a b before after
plans_digits choice external c a b left before after text held read ended stands h =
    let input = h.1 in
    (h.0, digits_read c None a b text held h.0 read ended stands (sym input.stands ∙ whole_bytes held input.input left input.read input.ended) input.faulty, h.2)

pub plans_digits_part : (choice : Choice) (external : Labels) (c : Bool) (a b left before after : Option (List ℕ)) (text held : List ℕ) → Consumes a b text → IsAtEnd b → read_text text ≡ Ok held → WritesPlanPart choice external false c (Some held) left before after
    → WritesPlanPart choice external true c a b before after
plans_digits_part choice external c a b left before after text held read ended stands h =
    let input = h.1 in
    (h.0, digits_read c None a b text held h.0 read ended stands (sym input.stands ∙ whole_bytes held input.input left input.read input.ended) input.faulty, h.2)

pub digits_to_fault : (c : Bool) (f : TailFault) (a b left : Option (List ℕ)) (text held : List ℕ) → Consumes a b text → IsAtEnd b → read_text text ≡ Ok held → ReadsFault false c f (Some held) left → ReadsFault true c f a b
digits_to_fault c f a b None text held read ended stands h = absurd h.read
digits_to_fault c f a b (Some rest) text held read ended stands h =
    (h.named, (held, digits_read c (Some f) a b text held held read ended stands refl (ap (λ s. fault (log_in c (s ∷ []))) h.read ∙ h.stays rest)))

-- what follows of an answer that is `Ok`
pub ok_so : {A E : Type 0} (r : Result A E) (P Q : Type 0) → (P → Q) → OnOk r P → OnOk r Q
ok_so (Ok x) P Q f h = f h
ok_so (Err e) P Q f h = tt
