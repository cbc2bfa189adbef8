-- The small history of a receiver with a journal is one of those that the laws speak of.
use Rattle.std.proofs.Common.{◌≡◌, ◌⊎◌, inl, inr, ℕ, zero, suc, ◌+◌, ◌≤◌, cond, List, [], ◌∷◌, ◌++◌, append_assoc, append-nil, length, length-append, drop, slice_get, Some, true, false, Ok, refl, sym, ap, ◌∙◌, subst, arith}
use Rattle.std.specs.FinMap.{empty}
use Rattle.std.specs.declared.alloc.Global.{Global}
use Rattle.std.specs.declared.sync.Arc.{Arc}
use Rattle.std.proofs.lemmas.Option.{same_Some, none-some}
use Rattle.rw_types.specs.Beginnings.{Begins}
use Rattle.rw_types.specs.Labels.{Labels}
use Rattle.rw_types.specs.LabelOrder.{labels_eq}
use Rattle.rw_types.specs.declared.entry.Entry.{Entry}
use Rattle.rw_types.specs.declared.entry.Entry.TheVariants.{Def, Sample}
use Rattle.rw_codes.specs.Crc.{crc_bits}
use Rattle.rw_codes.specs.Varint.{groups, number_in_groups}
use Rattle.rw_wal_format.specs.Pieces.{bytes, page_size, reading}
use Rattle.rw_wal_format.specs.Records.{record_entries, series_record}
use Rattle.rw_wal_format.specs.Segments.{Kind, full, Reading, begun, between, inside, fragment, item_at, stopped, segment_in}
use Rattle.rw_wal_format.specs.Writing.{frame, log_bytes}
use Rattle.rw_write_request.specs.Message.{WriteRequest}
use Rattle.rw_write_request.specs.Canon.{canon}
use Rattle.rw_write_request.specs.Read.{read}
use Rattle.rw_write_request.specs.Valid.{IsMessage}
use Rattle.rw_shard_core.specs.SentRequest.{request_of}
use Rattle.rw_worker.specs.Setups.{WorkerSetup}
use Rattle.rw_endpoint.specs.Alone.{IsOneRequest}
use Rattle.rw_endpoint.specs.Reading.{BeginsWithHead}
use Rattle.rw_endpoint.specs.declared.intake.Intake.{Intake}
use Rattle.rw_head.specs.Head.{Answer, State, answer, answer_to}
use Rattle.rw_head.specs.Order.{Point}
use Rattle.rw_head.specs.Store.{Store, list_of}
use Rattle.rw_head.proofs.shared.StoreLemmas.{list_of-empty, list_of-with_list}
use Rattle.rw_machine.specs.declared.event.How.TheVariants.{Plain}
use Rattle.rw_kept_log.specs.Journal.{Segments, LeavesOnly}
use Rattle.rw_kept_log.specs.Logs.{entries_of, IsWholeText}
use Rattle.rw_kept_log.specs.Torn.{end_of_page, IsTornLog}
use Rattle.rw_kept_log.specs.TornLogs.{NoChance, after_item, item_of, place_of}
use Rattle.rw_kept_log.specs.Additions.{samples_of_labels}
use Rattle.rw_kept_log.specs.Definitions.{IsDefinedOnce}
use Rattle.rw_kept_head.specs.Answered.{KeepsHead, IsKeptAnswer}
use Rattle.rw_kept_head.specs.Kept.{Kept, SaysWhat, IsTornWrite, IsLeft}
use Rattle.rw_kept_head.specs.Opening.{HasSameEntries}
use Rattle.rw_restarts.specs.WireReceivers.{RunOfWorkers, ExchangePlace, IsEarlierExchange, WireEvent, Comes, Reopens, ReopensDuring, BringsExchange}
use Rattle.rw_restarts.specs.KeptWireReceivers.{ReadsBody, ReadsCarried, IsSound, IsOpenedFrom, IsCrash, HappensToKept, IsKeptReceiver}
use Rattle.rw_restarts.specs.Examples.{example_series, first, message_of, with_first}
use Rattle.rw_restarts.specs.WireExamples as wire
use Rattle.rw_restarts.specs.KeptExamples.{ExampleJournal, seen, may_leave, moment, left_since, tears, definition_written, sample_written, written, begun_header, torn, opened_over, cut_journal, written_over, kept_with, events, states}
use Rattle.rw_restarts.proofs.CarriedLemmas.{RequestsAreRead}
use Rattle.rw_restarts.proofs.WireExampleLemmas.{short_message, is_message, none-earlier, body_is, runs, here, taken, comes-among, runs-are, all-short}

-- ---- what is read of the log
abbrev defined : List Entry
defined = Def 1 example_series ∷ []

abbrev entries : List Entry
entries = Def 1 example_series ∷ Sample 1 first.0 first.1 ∷ []

reading-of-written : reading page_size (bytes written ∷ []) ≡ record { entries = entries; skipped = []; stop = between }
unfolding item_at segment_in record_entries number_in_groups reading crc_bits frame log_bytes groups
reading-of-written = refl

reading-of-definition : reading page_size (bytes definition_written ∷ []) ≡ record { entries = defined; skipped = []; stop = between }
unfolding item_at segment_in record_entries number_in_groups reading crc_bits frame log_bytes groups
reading-of-definition = refl

reading-of-torn : reading page_size (bytes torn ∷ []) ≡ record { entries = defined; skipped = []; stop = inside }
unfolding item_at segment_in record_entries number_in_groups reading crc_bits frame log_bytes groups
reading-of-torn = refl

reading-of-nothing : reading page_size (bytes [] ∷ []) ≡ stopped between
unfolding item_at segment_in reading
reading-of-nothing = refl

-- a text without fault or begun record is a whole one
whole-text : (text : List ℕ) (es : List Entry) → reading page_size (bytes text ∷ []) ≡ record { entries = es; skipped = []; stop = between } → IsWholeText page_size text
unfolding reading
whole-text text es e = ap (λ (r : Reading). r.stop) e

defined-once : IsDefinedOnce (entries_of page_size (written ∷ []))
defined-once = subst IsDefinedOnce (sym (ap (λ (r : Reading). r.entries) reading-of-written)) (tt, tt)

-- ---- the bytes
one-page : 0 + 0 + length written ≤ end_of_page page_size (0 + 0)
unfolding frame log_bytes groups
one-page = omega arith

same-page : length definition_written + 0 + length sample_written ≤ end_of_page page_size (length definition_written + 0)
unfolding frame log_bytes groups
same-page = omega arith

header-begins : Begins begun_header sample_written
unfolding frame log_bytes groups
header-begins = (drop 3 sample_written, refl)

torn-begins : Begins torn written
torn-begins = (header-begins.0, ap (λ (bs : List ℕ). definition_written ++ bs) header-begins.1 ∙ sym (append_assoc definition_written begun_header header-begins.0))

-- ---- a reader finds the definition in the torn bytes, which was written there, and nothing else
torn-at-0 : item_of page_size torn 0 ≡ fragment full (series_record 1 example_series)
unfolding item_at crc_bits frame log_bytes groups
torn-at-0 = refl

written-at-0 : item_of page_size written 0 ≡ fragment full (series_record 1 example_series)
unfolding item_at crc_bits frame log_bytes groups
written-at-0 = refl

torn-at-17 : item_of page_size torn 17 ≡ begun
unfolding item_at crc_bits frame log_bytes groups
torn-at-17 = refl

stays-at-17 : (n : ℕ) → place_of page_size torn (suc n) ≡ 17
unfolding groups
stays-at-17 zero = ap (after_item page_size 0) torn-at-0
stays-at-17 (suc n) = ap (λ (at : ℕ). after_item page_size at (item_of page_size torn at)) (stays-at-17 n) ∙ ap (after_item page_size 17) torn-at-17

no_fragment : (kind : Kind) (d : List ℕ) → begun ≡ fragment kind d → ⊥
no_fragment kind d e = cc (e)

no-chance : NoChance page_size written torn
no-chance zero kind d found = inl (written-at-0 ∙ sym torn-at-0 ∙ found)
no-chance (suc n) kind d found = absurd (no_fragment kind d (sym torn-at-17 ∙ ap (item_of page_size torn) (sym (stays-at-17 n)) ∙ found))

-- ---- what the log says
one-sample : (l : Labels) → cond (labels_eq l example_series) (first ∷ []) [] ≡ samples_of_labels entries l
one-sample [] = refl
one-sample (x ∷ l) = refl

says-first : SaysWhat (written ∷ []) with_first
says-first l =
    list_of-with_list example_series (first ∷ []) empty l ∙ ap (cond (labels_eq l example_series) (first ∷ [])) (list_of-empty l)
    ∙ one-sample l ∙ ap (λ (r : Reading). samples_of_labels r.entries l) (sym reading-of-written)

no-samples : (l : Labels) → samples_of_labels (entries_of page_size ([] ∷ [])) l ≡ []
no-samples l = ap (λ (r : Reading). samples_of_labels r.entries l) reading-of-nothing

says-nothing : SaysWhat ([] ∷ []) empty
says-nothing l = list_of-empty l ∙ sym (no-samples l)

says-defined : SaysWhat (definition_written ∷ []) empty
says-defined l = list_of-empty l ∙ ap (λ (r : Reading). samples_of_labels r.entries l) (sym reading-of-definition)

abbrev Keeps : Kept ExampleJournal → Type 0
Keeps = KeepsHead seen may_leave moment left_since tears

keeps-nothing : Keeps (kept_with empty (opened_over []))
keeps-nothing = record { says = says-nothing; whole = (whole-text [] [] reading-of-nothing, tt); synced = λ c left. left }

keeps-defined : Keeps (kept_with empty (opened_over definition_written))
keeps-defined = record { says = says-defined; whole = (whole-text definition_written defined reading-of-definition, tt); synced = λ c left. left }

keeps-first : (past : List Segments) → Keeps (kept_with with_first (record { segments = written ∷ []; past = past }))
keeps-first past = record { says = says-first; whole = (whole-text written entries reading-of-written, tt); synced = λ c left. left }

-- ---- what a crash leaves while the message is written after a text
record IsRest (text rest part : List ℕ) : Type 0 where
  whole : text ++ rest ≡ written
  front : text ++ part ≡ torn
  begins : Begins part rest
  within : length text + 0 + length rest ≤ end_of_page page_size (length text + 0)

after-nothing : IsRest [] written torn
after-nothing = record { whole = refl; front = refl; begins = torn-begins; within = one-page }

after-definition : IsRest definition_written sample_written begun_header
after-definition = record { whole = refl; front = refl; begins = header-begins; within = same-page }

module _ (text rest part : List ℕ) (is : IsRest text rest part) (new : Store) (same : new ≡ with_first) where
  -- the segments with these bytes after the text
  as_segments : (bs cs : List ℕ) (c : Segments) → text ++ bs ≡ cs → c ≡ cs ∷ [] → c ≡ (text ++ bs) ∷ []
  as_segments bs cs c e at = at ∙ ap (λ (s : List ℕ). s ∷ []) (sym e)

  will-say : SaysWhat ((text ++ rest) ∷ []) new
  will-say l = ap (λ (s : Store). list_of s l) same ∙ says-first l ∙ ap (λ (s : List ℕ). samples_of_labels (entries_of page_size (s ∷ [])) l) (sym is.whole)

  will-define : IsDefinedOnce (entries_of page_size ((text ++ rest) ∷ []))
  will-define = subst (λ (s : List ℕ). IsDefinedOnce (entries_of page_size (s ∷ []))) (sym is.whole) defined-once

  becomes-written : written ∷ [] ≡ (text ++ rest) ∷ []
  becomes-written = ap (λ (s : List ℕ). s ∷ []) (sym is.whole)

  torn-log : (bs : List ℕ) (c : Segments) → Begins bs rest → c ≡ (text ++ bs) ∷ [] → IsTornLog tears page_size (length text) (text ∷ []) rest c
  torn-log bs c begins at =
      let both = ap length begins.1 ∙ length-append bs begins.0 in
      record {
        more = bs;
        folder = at;
        torn = record {
          synced = 0;
          known = omega arith;
          part = rest;
          later = [];
          parts = sym (append-nil rest);
          within = is.within;
          torn = bs;
          tear = inr begins;
          no_longer = omega (arith, both);
          segment = refl;
        };
      }

  abbrev torn_write : (bs cs : List ℕ) (c : Segments) → Begins bs rest → text ++ bs ≡ cs → c ≡ cs ∷ [] → IsTornWrite tears (Some (written ∷ [])) new (text ∷ []) c
  torn_write bs cs c begins e at = record {
    written = rest;
    will = will-say;
    once = λ before. will-define;
    torn = torn-log bs c begins (as_segments bs cs c e at);
    whole = becomes-written;
  }

  abbrev left_is : (c : Segments) → left_since (written_over text) 0 c → IsLeft tears (Some (written ∷ [])) new (text ∷ []) c
  left_is c (inl all) = record { base = text ∷ []; begun = inl refl; is = inr (torn_write rest written c ([], sym (append-nil rest)) is.whole all) }
  left_is c (inr (inl none)) = record { base = text ∷ []; begun = inl refl; is = inl none }
  left_is c (inr (inr (inl some))) = record { base = text ∷ []; begun = inl refl; is = inr (torn_write part torn c is.begins is.front some) }
  left_is c (inr (inr (inr none))) = absurd none

  left-before : (t : ℕ) (c : Segments) → t ≤ 0 → left_since (written_over text) t c → left_since (opened_over text) t c ⊎ IsLeft tears (Some (written ∷ [])) new (text ∷ []) c
  left-before zero c le left = inr (left_is c left)
  left-before (suc t) c le left = absurd (omega (arith, le))

  later : 0 ≤ 2
  later = omega arith

  abbrev leaves_write : LeavesOnly moment left_since (opened_over text) (written_over text) (IsLeft tears (Some (written ∷ [])) new (text ∷ []))
  leaves_write = record { later = later; each = left_is; before = left-before }

-- the begun header is cut off
same-entries : (c : Segments) → left_since cut_journal 0 c → HasSameEntries (torn ∷ []) c
same-entries c (inl cut) = ap (entries_of page_size) cut ∙ ap (λ (r : Reading). r.entries) reading-of-definition ∙ sym (ap (λ (r : Reading). r.entries) reading-of-torn)
same-entries c (inr (inl still)) = ap (entries_of page_size) still
same-entries c (inr (inr none)) = absurd none

leaves-cut : LeavesOnly moment left_since (opened_over torn) cut_journal (HasSameEntries (torn ∷ []))
leaves-cut = record { later = omega arith; each = same-entries; before = before }
  where
    before : (t : ℕ) (c : Segments) → t ≤ 0 → left_since cut_journal t c → left_since (opened_over torn) t c ⊎ HasSameEntries (torn ∷ []) c
    before zero c le left = inr (same-entries c left)
    before (suc t) c le left = absurd (omega (arith, le))

-- ---- a start
abbrev Opened : ℕ → Segments → Kept ExampleJournal → Type 0
Opened = IsOpenedFrom seen may_leave moment left_since tears wire.receiver.limits

opened-empty : Opened 0 ([] ∷ []) (kept_with empty (opened_over []))
opened-empty = (opened_over [], refl, record { says = says-nothing; kept = keeps-nothing; no_fault = refl; limits_are = refl })

opened-defined : Opened 0 (definition_written ∷ []) (kept_with empty (opened_over definition_written))
opened-defined = (opened_over definition_written, refl, record { says = says-defined; kept = keeps-defined; no_fault = refl; limits_are = refl })

-- a crash leaves the log after the cut
opened-torn : Opened 1 (torn ∷ []) (kept_with empty (opened_over definition_written))
opened-torn = (opened_over torn, cut_journal, definition_written ∷ [], refl, leaves-cut, inl refl, opened-defined)

opened-whole : Opened 0 (written ∷ []) (kept_with with_first (opened_over written))
opened-whole = (opened_over written, refl, record { says = says-first; kept = keeps-first []; no_fault = refl; limits_are = refl })

-- ---- the history
different : (let status : ℕ = 204 in status ≡ 503) → ⊥
different e = omega (arith, e)

abbrev body : List ℕ
body = canon (message_of first)

sound : IsSound wire.receiver
sound = record { host = refl; path = refl; limit = omega arith }

module _ (reads : (m : WriteRequest) → IsMessage m → read (canon m) ≡ Ok m) (requests : RequestsAreRead) (worker : WorkerSetup) (shared : Arc Labels Global) where
  abbrev own_runs : List RunOfWorkers
  own_runs = runs reads worker shared

  -- ---- the request
  body-is-read : ReadsBody wire.receiver.target.path wire.receiver.max_body (wire.exchange worker shared).request body
  body-is-read =
      let few = short_message in
      let taken : Intake = record { limit = 1024; snappy = false } in
      let one : IsOneRequest wire.target.path taken (request_of wire.target.host wire.target.path body) body = requests wire.target.host wire.target.path body taken refl refl (omega (arith, few)) (omega (arith, few)) in
      record {
        head = one.head;
        sent = one.body;
        left = [];
        closes = true;
        snappy = false;
        coding = one.coding;
        begins = subst (λ (all : List ℕ). BeginsWithHead all one.head (one.body ++ [])) (ap (request_of wire.target.host wire.target.path) (sym (body_is reads worker shared)))
            (subst (BeginsWithHead (request_of wire.target.host wire.target.path body) one.head) (sym (append-nil one.body)) one.begins);
        finding = one.finding;
        holds = one.holds;
      }

  is-carried : ReadsCarried wire.receiver (wire.exchange worker shared).request body
  is-carried = record { bytes = (wire.exchange worker shared).request; carries = inl refl; reads = body-is-read }

  -- ---- the answer
  abbrev empty_head : State
  empty_head = (kept_with empty (opened_over [])).head

  answer_is : answer empty_head body ≡ record { status = 204; head = (kept_with with_first (opened_over [])).head }
  answer_is = ap (answer_to empty_head) (reads (message_of first) is_message) ∙ taken reads worker shared

  stored : (answer empty_head body).head.store ≡ with_first
  stored = ap (λ (a : Answer). a.head.store) answer_is

  begins-empty : (l : Labels) → Begins (list_of empty l) (list_of (answer empty_head body).head.store l)
  begins-empty l = (list_of (answer empty_head body).head.store l, ap (λ (xs : List Point). xs ++ list_of (answer empty_head body).head.store l) (sym (list_of-empty l)))

  abbrev answers_204 : (text rest part : List ℕ) → IsRest text rest part
      → IsKeptAnswer seen may_leave moment left_since tears (kept_with empty (opened_over text)) body 204 (kept_with with_first (written_over text))
  answers_204 text rest part is = record {
    status_is = λ up. sym (ap (λ (a : Answer). a.status) answer_is);
    head = λ up. sym (ap (λ (a : Answer). a.head) answer_is);
    unavailable = λ down. absurd (different down);
    statuses = inl refl;
    refused = λ other. absurd (other refl);
    acknowledged = λ same. keeps-first (written_over text).past;
    kept = λ no_fault. keeps-first (written_over text).past;
    once = λ no_fault before. defined-once;
    any_moment = λ no_fault. leaves_write text rest part is (answer empty_head body).head.store stored;
    begins = begins-empty;
    closed = λ error failed. absurd (none-some error failed);
  }

  -- ---- the events
  abbrev Happens : WireEvent → ℕ → Type 0
  Happens event at = HappensToKept seen may_leave moment left_since tears wire.receiver own_runs event states at

  crashes : IsCrash seen may_leave moment left_since tears states 0 body (torn ∷ [])
  crashes = record {
    since = 0;
    early = omega arith;
    no_fault = refl;
    status = 204;
    after = kept_with with_first (written_over []);
    answered = answers_204 [] written torn after-nothing;
    now = inl refl;
    leaves = inr (inr (inl refl));
    no_chance = no-chance;
  }

  reopens-torn : Happens (ReopensDuring wire.the_place) 0
  unfolding crashes
  reopens-torn = record {
    w = wire.run worker shared;
    x = wire.exchange worker shared;
    is = here reads worker shared;
    body = body;
    reads = is-carried;
    left = torn ∷ [];
    crash = crashes;
    taken = ap (λ (a : Answer). a.status) answer_is;
    tries = 1;
    opened = opened-torn;
    acknowledged = refl;
  }

  answers : Happens (Comes wire.the_place Plain 204) 1
  answers = record {
    w = wire.run worker shared;
    x = wire.exchange worker shared;
    is = here reads worker shared;
    answered = inl (record { body = body; reads = is-carried; answered = answers_204 definition_written sample_written begun_header after-definition }, different);
    acknowledged = refl;
  }

  reopens-whole : Happens Reopens 2
  reopens-whole = record { left = written ∷ []; crash = inl (inl refl, refl); tries = 0; opened = opened-whole; acknowledged = refl }

  happens : (at : ℕ) (event : WireEvent) → slice_get events at ≡ Some event → Happens event at
  happens zero event e = subst (λ (v : WireEvent). Happens v 0) (same_Some (ReopensDuring wire.the_place) event e) reopens-torn
  happens (suc zero) event e = subst (λ (v : WireEvent). Happens v 1) (same_Some (Comes wire.the_place Plain 204) event e) answers
  happens (suc (suc zero)) event e = subst (λ (v : WireEvent). Happens v 2) (same_Some Reopens event e) reopens-whole
  happens (suc (suc (suc n))) event e = absurd (none-some event e)

  -- ---- the network
  none_before : (at : ℕ) (event : WireEvent) (p q : ExchangePlace) → slice_get events at ≡ Some event → BringsExchange event q → IsEarlierExchange p q → ⊥
  none_before zero event p q e b earlier = none-earlier p q (subst (λ (v : WireEvent). BringsExchange v q) (sym (same_Some (ReopensDuring wire.the_place) event e)) b) earlier
  none_before (suc zero) event p q e b earlier = none-earlier p q (subst (λ (v : WireEvent). BringsExchange v q) (sym (same_Some (Comes wire.the_place Plain 204) event e)) b) earlier
  none_before (suc (suc zero)) event p q e b earlier = subst (λ (v : WireEvent). BringsExchange v q) (sym (same_Some Reopens event e)) b
  none_before (suc (suc (suc n))) event p q e b earlier = absurd (none-some event e)

  pub kept-receiver-is : IsKeptReceiver seen may_leave moment left_since tears wire.receiver own_runs events states
  kept-receiver-is = record {
    sound = sound;
    runs_are = runs-are reads worker shared;
    fresh = [] ∷ [];
    no_samples = no-samples;
    tries = 0;
    opened = opened-empty;
    none_yet = refl;
    happens = happens;
    reads = λ p w x text is read. all-short reads worker shared p w x is;
    answers = record {
      all = comes-among reads worker shared events 3 1 (omega arith) refl;
      later = λ at event p q w x r e b earlier is answer. absurd (none_before at event p q e b earlier);
    };
  }
