-- Script lines: a word and what follows it, with single spaces.
use Rattle.std.specs.Prelude.{◌≡◌, ◌⊎◌, ◌^◌, ◌<◌, ℕ, List, ◌∷◌, ◌++◌, Some, codes}
use Rattle.rw_text.specs.HexText.{read_digits}
use Rattle.rw_text.specs.Numbers.{IsNumber}
use Rattle.rw_text.specs.RecordLines.{IsRecordOf}
use Rattle.rw_wal_tail.specs.declared.piece.Piece.TheVariants as piece
use Rattle.rw_machine.specs.declared.event.How.{How}
use Rattle.rw_machine.specs.declared.event.How.TheVariants.{Plain, Busy, OutOfMemory}
use Rattle.rw_machine.specs.declared.event.Event.{Event}
use Rattle.rw_machine.specs.declared.event.Event.TheVariants as event
use Rattle.rw_replay.specs.declared.words.BareWord.{BareWord}
use Rattle.rw_replay.specs.declared.words.BareWord.TheVariants.{Segment, Place, Restart, Close, Kill, Settle}
use Rattle.rw_replay.specs.declared.words.NumberedWord.{NumberedWord}
use Rattle.rw_replay.specs.declared.words.NumberedWord.TheVariants.{Flush, Take, Freeze, Send, Reply, Lost, Reshard}
use Rattle.rw_replay.specs.declared.command.Command.{Command}
use Rattle.rw_replay.specs.declared.command.Command.TheVariants as command

-- what a line orders: a record is logged, bytes are fed, a request arrives, or one of the words,
-- alone or with a number
pub data Order : Type 0 where
  logged : (rec : List ℕ) → Order
  fed : (bytes : List ℕ) → Order
  arrives : (request : ℕ) → (how : How) → Order
  bare : (word : BareWord) → Order
  numbered : (word : NumberedWord) → (number : ℕ) → Order

abbrev pub bare_text : BareWord → List ℕ
bare_text Segment = codes "segment"
bare_text Place = codes "place"
bare_text Restart = codes "restart"
bare_text Close = codes "close"
bare_text Kill = codes "kill"
bare_text Settle = codes "settle"

abbrev pub numbered_text : NumberedWord → List ℕ
numbered_text Flush = codes "flush"
numbered_text Take = codes "take"
numbered_text Freeze = codes "freeze"
numbered_text Send = codes "send"
numbered_text Reply = codes "reply"
numbered_text Lost = codes "lost"
numbered_text Reshard = codes "reshard"

abbrev pub how_text : How → List ℕ
how_text Plain = codes "plain"
how_text Busy = codes "busy"
how_text OutOfMemory = codes "short"

-- decimal digits of a number below 2^64
pub record IsCount (text : List ℕ) (n : ℕ) : Type 0 where
  pub is_number : IsNumber text n
  pub fits : n < 2 ^ 64

-- `K plain`, `K busy` or `K short`
pub record IsArrival (text : List ℕ) (request : ℕ) (how : How) : Type 0 where
  pub number : List ℕ
  pub parts : text ≡ number ++ 32 ∷ how_text how
  pub is_count : IsCount number request

-- the word that begins the line
abbrev pub word_of : Order → List ℕ
word_of (logged rec) = codes "log"
word_of (fed bytes) = codes "feed"
word_of (arrives request how) = codes "arrive"
word_of (bare word) = bare_text word
word_of (numbered word number) = numbered_text word

abbrev pub IsBare : Order → Type 0
IsBare (logged rec) = ⊥
IsBare (fed bytes) = ⊥
IsBare (arrives request how) = ⊥
IsBare (bare word) = Unit {0}
IsBare (numbered word number) = ⊥

-- what follows the word and a space
abbrev pub IsBehind : List ℕ → Order → Type 0
IsBehind text (logged rec) = IsRecordOf text rec
IsBehind text (fed bytes) = read_digits text ≡ Some bytes
IsBehind text (arrives request how) = IsArrival text request how
IsBehind text (bare word) = ⊥
IsBehind text (numbered word number) = IsCount text number

-- a word and, after a space, the rest of the line
abbrev pub IsWordAnd : List ℕ → List ℕ → Order → Type 0
IsWordAnd word rest o = (word ≡ word_of o) × IsBehind rest o

-- a script line: `log LINE`, `feed HEX`, `arrive K plain|busy|short`, a word, or a word and a
-- number
abbrev pub IsOrder : List ℕ → Order → Type 0
IsOrder text o = (IsBare o × (text ≡ word_of o))
    ⊎ ((word : List ℕ) × (rest : List ℕ) × (text ≡ word ++ 32 ∷ rest) × IsWordAnd word rest o)

-- the order that an event carries out
abbrev pub order_of_event : Event → Order
order_of_event (event.Feed (piece.Bytes b)) = fed b.items
order_of_event (event.Feed piece.NextSegment) = bare Segment
order_of_event event.Place = bare Place
order_of_event (event.Flush i) = numbered Flush i
order_of_event (event.Take i) = numbered Take i
order_of_event (event.Freeze i) = numbered Freeze i
order_of_event (event.Send i) = numbered Send i
order_of_event (event.Arrive request how) = arrives request how
order_of_event (event.Reply i) = numbered Reply i
order_of_event (event.Lost i) = numbered Lost i
order_of_event (event.Reshard n) = numbered Reshard n
order_of_event event.Restart = bare Restart
order_of_event event.Close = bare Close
order_of_event event.Kill = bare Kill

-- what was read of a line
abbrev pub order_of : Command → Order
order_of (command.Log rec) = logged rec.items
order_of (command.Event e) = order_of_event e
order_of command.Settle = bare Settle
