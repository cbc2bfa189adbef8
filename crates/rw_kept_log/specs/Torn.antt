-- What a crash leaves of bytes that are written page by page, each page synced before the next one
-- is begun.
use Rattle.std.specs.Prelude.{◌≡◌, ◌⊎◌, ℕ, ◌+◌, ◌-◌, ◌%◌, ◌≤◌, List, [], ◌++◌, length, take, drop}
use Rattle.rw_kept_log.specs.Journal.{Segments, with_more}

-- the bytes that are left in the page at an offset
abbrev pub left_at : ℕ → ℕ → ℕ
left_at page offset = page - offset % page

-- where the page of an offset ends
abbrev pub end_of_page : ℕ → ℕ → ℕ
end_of_page page offset = offset + left_at page offset

-- A crash left this of a segment to which `written` was being written, with its first `synced`
-- bytes on the disk: these are as they were written, and whatever comes after them ends within
-- their page.
pub record IsTorn (page synced : ℕ) (written left : List ℕ) : Type 0 where
  pub known : synced ≤ length written
  pub front : take synced left ≡ take synced written
  pub within : length left ≤ end_of_page page synced

-- Of what was being written from an offset on, the first `synced` bytes were on the disk, and a
-- part that ends within their page was on its way: there is nothing of it, or a torn part of it.
pub record IsTornFrom (tears : List ℕ → List ℕ → Type 0) (page offset : ℕ) (written left : List ℕ) : Type 0 where
  pub synced : ℕ
  pub known : synced ≤ length written
  pub part : List ℕ
  pub later : List ℕ
  pub parts : drop synced written ≡ part ++ later
  pub within : offset + synced + length part ≤ end_of_page page (offset + synced)
  pub torn : List ℕ
  pub tear : (torn ≡ []) ⊎ tears part torn
  pub no_longer : length torn ≤ length part
  pub segment : left ≡ take synced written ++ torn

-- Segments to whose last one, of `offset` bytes, `written` was being appended: all that was there
-- is there, and after it a torn part of `written`.
pub record IsTornLog (tears : List ℕ → List ℕ → Type 0) (page offset : ℕ) (old : Segments) (written : List ℕ) (left : Segments) : Type 0 where
  pub more : List ℕ
  pub folder : left ≡ with_more old more
  pub torn : IsTornFrom tears page offset written more
