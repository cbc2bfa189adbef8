-- What `KeptHead::admit` says of an answer, by the names of its clauses.
use Rattle.std.specs.Prelude.{◌≡◌, ◌≢◌, ℕ, List, None, Some}
use Rattle.rw_types.specs.Beginnings.{Begins}
use Rattle.rw_types.specs.Labels.{Labels}
use Rattle.rw_head.specs.Head.{IsStatus, answer}
use Rattle.rw_head.specs.Store.{list_of}
use Rattle.rw_kept_log.specs.Journal.{Segments, LeavesOnly}
use Rattle.rw_kept_log.specs.declared.journal.JournalError.{JournalError}
use Rattle.rw_kept_head.specs.Kept.{Kept, KeepsStore, IsLeft, StaysDefinedOnce, ended_with}

module _ {J : Type 0} (seen : J → Segments) (may_leave : J → Segments → Type 0) (moment : J → ℕ)
    (left_since : J → ℕ → Segments → Type 0) (tears : List ℕ → List ℕ → Type 0)
  where
    -- the log keeps what the head holds
    abbrev pub KeepsHead : Kept J → Type 0
    KeepsHead k = KeepsStore (may_leave k.journal) (seen k.journal) k.head.store

    -- a body was answered with this status, and led from one head over a journal to the next one
    pub record IsKeptAnswer (old : Kept J) (body : List ℕ) (status : ℕ) (new : Kept J) : Type 0
      where
        pub status_is : status ≢ 503 → status ≡ (answer old.head body).status
        pub head : status ≢ 503 → new.head ≡ (answer old.head body).head
        pub unavailable : status ≡ 503 → new.head ≡ old.head
        pub statuses : IsStatus status
        pub refused : status ≢ 204 → new.head.store ≡ old.head.store
        pub acknowledged : status ≡ 204 → KeepsHead new
        pub kept : new.fault ≡ None → KeepsHead new
        pub once : new.fault ≡ None → StaysDefinedOnce (seen old.journal) (seen new.journal)
        pub any_moment : old.fault ≡ None
            → LeavesOnly moment left_since old.journal new.journal
            (IsLeft tears (ended_with status (seen new.journal))
            (answer old.head body).head.store (seen old.journal))
        pub begins : (l : Labels) → Begins (list_of old.head.store l)
            (list_of (answer old.head body).head.store l)
        pub closed : (e : JournalError) → old.fault ≡ Some e
            → (status ≢ 204) × (new.journal ≡ old.journal) × (new.fault ≡ old.fault)
