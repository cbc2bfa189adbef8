-- How the state of the files of a folder changes with one more call.
use Rattle.std.proofs.Common.{◌≡◌, ◌⊎◌, inl, inr, ⊎_elim, ℕ, zero, suc, ◌+◌, ◌≤◌, List, [], ◌∷◌, ◌++◌, length, take, refl, sym, ap, ◌∙◌, subst, arith, length-append}
use Rattle.rw_kept_log.specs.Journal.{Segments, on_last, with_more, Only, NoMore, IsTornEnd, IsCutEnd, IsBegun, Elapses}
use Rattle.rw_kept_folder.specs.declared.file_call.FileCall.{FileCall}
use Rattle.rw_kept_folder.specs.declared.file_call.FileCall.TheVariants.{Append, SetLen, CreateNext, SyncData, SyncFolder}
use Rattle.rw_kept_folder.specs.Files.{HasAll, IsSureIfAll}
use Rattle.rw_kept_folder.proofs.LengthLemmas.{length_on_last}
use Rattle.rw_kept_folder.specs.Noted.{Noted, UnderWay, Nothing, Appending, Cutting, Creating, Loaded, Copied, CopySynced, Replaced, FolderState, changed_by, Tears, HasOneMore, Leaves, seen_in, LeftIn, data_synced, folder_synced, step, after_calls, LeftFrom, no_segments, state_of, seen_of, MayLeave, LeftSinceNoted}
use Rattle.rw_kept_folder.specs.inner.Noted.{IsOwn, HasOwn, all_written}

pub after_push : (s : FolderState) (calls : List FileCall) (call : FileCall) → after_calls s (calls ++ call ∷ []) ≡ step call (after_calls s calls)
after_push s [] call = refl
after_push s (x ∷ calls) call = after_push (step x s) calls call

keeps : (s : FolderState) (calls : List FileCall) (call : FileCall) (t : ℕ) (c : Segments) → t ≤ length calls → LeftFrom s calls t c → LeftFrom s (calls ++ call ∷ []) t c
keeps s [] call zero c le left = inl left
keeps s [] call (suc t) c le left = absurd (omega arith)
keeps s (x ∷ calls) call zero c le (inl now) = inl now
keeps s (x ∷ calls) call zero c le (inr later) = inr (keeps (step x s) calls call zero c (omega arith) later)
keeps s (x ∷ calls) call (suc t) c le left = keeps (step x s) calls call t c (omega arith) left

adds : (s : FolderState) (calls : List FileCall) (call : FileCall) (t : ℕ) (c : Segments) → t ≤ length calls → LeftFrom s (calls ++ call ∷ []) t c → LeftFrom s calls t c ⊎ LeftIn (after_calls s (calls ++ call ∷ [])) c
adds s [] call zero c le left = left
adds s [] call (suc t) c le left = absurd (omega arith)
adds s (x ∷ calls) call zero c le (inl now) = inl (inl now)
adds s (x ∷ calls) call zero c le (inr later) = ⊎_elim (λ past. inl (inr past)) (λ new. inr new) (adds (step x s) calls call zero c (omega arith) later)
adds s (x ∷ calls) call (suc t) c le left = adds (step x s) calls call t c (omega arith) left

module _ (old new : Noted) where
  -- no call more
  module _ (calls : new.calls ≡ old.calls) where
    same_state : state_of new ≡ state_of old
    same_state = ap (after_calls no_segments) calls

    pub same_seen : seen_of new ≡ seen_of old
    same_seen = ap seen_in same_state

    pub same_left : NoMore (MayLeave old) (MayLeave new)
    same_left c left = subst (λ (s : FolderState). LeftIn s c) same_state left

    pub same_own : HasOwn old → HasOwn new
    same_own own = subst (λ (s : FolderState). IsOwn s.under_way) (sym same_state) own

    same_since : (t : ℕ) (c : Segments) → LeftSinceNoted new t c ≡ LeftSinceNoted old t c
    same_since t c = ap (λ (cs : List FileCall). LeftFrom no_segments cs t c) calls

    pub elapses_same : Elapses (length old.calls) (length new.calls) (LeftSinceNoted old) (LeftSinceNoted new) (MayLeave new)
    elapses_same = record {
      later = omega (arith, ap length calls);
      nothing_else = λ t c le left. inl (subst (λ (T : Type 0). T) (same_since t c) left);
      keeps = λ t c le left. subst (λ (T : Type 0). T) (sym (same_since t c)) left;
    }

  -- one call more
  module _ (call : FileCall) (calls : new.calls ≡ old.calls ++ call ∷ []) where
    pub same_step : state_of new ≡ step call (state_of old)
    same_step = ap (after_calls no_segments) calls ∙ after_push no_segments old.calls call

    pub seen_after : seen_of new ≡ seen_in (step call (state_of old))
    seen_after = ap seen_in same_step

    pub left_after : (c : Segments) → MayLeave new c → LeftIn (step call (state_of old)) c
    left_after c left = subst (λ (s : FolderState). LeftIn s c) same_step left

    pub own_after : IsOwn (step call (state_of old)).under_way → HasOwn new
    own_after own = subst (λ (s : FolderState). IsOwn s.under_way) (sym same_step) own

    from_new : (t : ℕ) (c : Segments) → LeftSinceNoted new t c ≡ LeftFrom no_segments (old.calls ++ call ∷ []) t c
    from_new t c = ap (λ (cs : List FileCall). LeftFrom no_segments cs t c) calls

    now_new : (c : Segments) → MayLeave new c ≡ LeftIn (after_calls no_segments (old.calls ++ call ∷ [])) c
    now_new c = ap (λ (s : FolderState). LeftIn s c) (same_step ∙ sym (after_push no_segments old.calls call))

    pub elapses_push : Elapses (length old.calls) (length new.calls) (LeftSinceNoted old) (LeftSinceNoted new) (MayLeave new)
    elapses_push = record {
      later = omega (arith, ap length calls, length-append old.calls (call ∷ []));
      nothing_else = λ t c le left. ⊎_elim (λ past. inl past) (λ now. inr (subst (λ (T : Type 0). T) (sym (now_new c)) now)) (adds no_segments old.calls call t c le (subst (λ (T : Type 0). T) (from_new t c) left));
      keeps = λ t c le left. subst (λ (T : Type 0). T) (sym (from_new t c)) (keeps no_segments old.calls call t c le left);
    }

data_seen : (u : UnderWay) (d : Segments) → seen_in (data_synced u (record { on_disk = d; under_way = u })) ≡ changed_by u d
data_seen Nothing d = refl
data_seen (Appending bytes) d = refl
data_seen (Cutting len) d = refl
data_seen Creating d = refl
data_seen (Loaded text) d = refl
data_seen (Copied text copy) d = refl
data_seen (CopySynced text copy) d = refl
data_seen (Replaced copy) d = refl

data_fewer : (u : UnderWay) (d c : Segments) → LeftIn (data_synced u (record { on_disk = d; under_way = u })) c → Leaves u d c
data_fewer Nothing d c left = left
data_fewer (Appending bytes) d c left = subst (λ (x : Segments). Leaves (Appending bytes) d x) (sym left) (all_written (Appending bytes) d)
data_fewer (Cutting len) d c left = subst (λ (x : Segments). Leaves (Cutting len) d x) (sym left) (all_written (Cutting len) d)
data_fewer Creating d c left = left
data_fewer (Loaded text) d c left = left
data_fewer (Copied text copy) d c left = left
data_fewer (CopySynced text copy) d c left = left
data_fewer (Replaced copy) d c left = left

data_own : (u : UnderWay) (d : Segments) → IsOwn u → IsOwn (data_synced u (record { on_disk = d; under_way = u })).under_way
data_own Nothing d own = own
data_own (Appending bytes) d own = own
data_own (Cutting len) d own = own
data_own Creating d own = own
data_own (Loaded text) d own = own
data_own (Copied text copy) d own = own
data_own (CopySynced text copy) d own = own
data_own (Replaced copy) d own = own

-- a folder with one segment more has not as many
longer : {A : Type 0} (xs : List A) (x : A) → length xs ≡ length (xs ++ x ∷ []) → ⊥
longer xs x e = omega (arith, e, length-append xs (x ∷ []))

begun_whole : (d c : Segments) → IsBegun d c → length c ≡ length (d ++ [] ∷ []) → c ≡ d ++ [] ∷ []
begun_whole d c (inl same) e = absurd (longer d [] (sym (ap length same) ∙ e))
begun_whole d c (inr more) e = more

data_sure : (u : UnderWay) (d c : Segments) → IsOwn u → LeftIn (data_synced u (record { on_disk = d; under_way = u })) c → length c ≡ length (changed_by u d) → c ≡ changed_by u d
data_sure Nothing d c own left e = left
data_sure (Appending bytes) d c own left e = left
data_sure (Cutting len) d c own left e = left
data_sure Creating d c own left e = begun_whole d c left e
data_sure (Loaded text) d c own left e = absurd own
data_sure (Copied text copy) d c own left e = absurd own
data_sure (CopySynced text copy) d c own left e = absurd own
data_sure (Replaced copy) d c own left e = absurd own

folder_seen : (u : UnderWay) (d : Segments) → seen_in (folder_synced u (record { on_disk = d; under_way = u })) ≡ changed_by u d
folder_seen Nothing d = refl
folder_seen (Appending bytes) d = refl
folder_seen (Cutting len) d = refl
folder_seen Creating d = refl
folder_seen (Loaded text) d = refl
folder_seen (Copied text copy) d = refl
folder_seen (CopySynced text copy) d = refl
folder_seen (Replaced copy) d = refl

folder_fewer : (u : UnderWay) (d c : Segments) → LeftIn (folder_synced u (record { on_disk = d; under_way = u })) c → Leaves u d c
folder_fewer Nothing d c left = left
folder_fewer (Appending bytes) d c left = left
folder_fewer (Cutting len) d c left = left
folder_fewer Creating d c left = inr left
folder_fewer (Loaded text) d c left = left
folder_fewer (Copied text copy) d c left = left
folder_fewer (CopySynced text copy) d c left = left
folder_fewer (Replaced copy) d c left = inr (record { last = copy; folder = left })

folder_own : (u : UnderWay) (d : Segments) → IsOwn u → IsOwn (folder_synced u (record { on_disk = d; under_way = u })).under_way
folder_own Nothing d own = own
folder_own (Appending bytes) d own = own
folder_own (Cutting len) d own = own
folder_own Creating d own = own
folder_own (Loaded text) d own = own
folder_own (Copied text copy) d own = own
folder_own (CopySynced text copy) d own = own
folder_own (Replaced copy) d own = tt

folder_all : (u : UnderWay) (d c : Segments) → IsOwn u → LeftIn (folder_synced u (record { on_disk = d; under_way = u })) c → length c ≡ length (changed_by u d)
folder_all Nothing d c own left = ap length left
folder_all (Appending bytes) d c own left = ap length left.folder ∙ length_on_last (λ s. s ++ left.more) d ∙ sym (length_on_last (λ s. s ++ bytes) d)
folder_all (Cutting len) d c own left = ap length left.folder ∙ length_on_last (take left.at) d ∙ sym (length_on_last (take len) d)
folder_all Creating d c own left = ap length left
folder_all (Loaded text) d c own left = absurd own
folder_all (Copied text copy) d c own left = absurd own
folder_all (CopySynced text copy) d c own left = absurd own
folder_all (Replaced copy) d c own left = absurd own

-- if a crash leaves what is seen, nothing that was loaded is under way
not_without : (d : Segments) (text : List ℕ) → ((c : Segments) → (c ≡ d) ⊎ HasOneMore d c → c ≡ d ++ text ∷ []) → ⊥
not_without d text only = longer d text (ap length (only d (inl refl)))

only_own : (u : UnderWay) (d : Segments) → Only (changed_by u d) (Leaves u d) → IsOwn u
only_own Nothing d only = tt
only_own (Appending bytes) d only = tt
only_own (Cutting len) d only = tt
only_own Creating d only = tt
only_own (Loaded text) d only = not_without d text only
only_own (Copied text copy) d only = not_without d text only
only_own (CopySynced text copy) d only = not_without d text only
only_own (Replaced copy) d only = not_without d copy only

pub own_if_only : (noted : Noted) → Only (seen_of noted) (MayLeave noted) → HasOwn noted
own_if_only noted only = only_own (state_of noted).under_way (state_of noted).on_disk only

-- one more call was noted
pub record Pushed (old new : Noted) (call : FileCall) : Type 0 where
  pub calls : new.calls ≡ old.calls ++ call ∷ []

pub pushed_by : (inside old new : Noted) (call : FileCall) → inside ≡ old → new ≡ record inside { calls = inside.calls ++ call ∷ [] } → Pushed old new call
pushed_by inside old new call is e = record {
  calls = ap (λ (n : Noted). n.calls) e ∙ ap (λ (n : Noted). n.calls ++ call ∷ []) is;
}

-- and a fault after it
pub pushed_failed : (old between new : Noted) (call : FileCall) → new ≡ record between { faults = between.faults + 1 } → Pushed old between call → Pushed old new call
pushed_failed old between new call e p = record {
  calls = ap (λ (n : Noted). n.calls) e ∙ p.calls;
}

module _ (old new : Noted) where
  pub elapses_pushed : (call : FileCall) → Pushed old new call → Elapses (length old.calls) (length new.calls) (LeftSinceNoted old) (LeftSinceNoted new) (MayLeave new)
  elapses_pushed call p = elapses_push old new call p.calls

  pub append_seen : (bytes : List ℕ) → Pushed old new (Append bytes) → seen_of new ≡ with_more (seen_of old) bytes
  append_seen bytes p = seen_after old new (Append bytes) p.calls

  pub append_left : (bytes : List ℕ) → Pushed old new (Append bytes) → (c : Segments) → MayLeave new c → IsTornEnd Tears bytes (seen_of old) c
  append_left bytes p c left = left_after old new (Append bytes) p.calls c left

  pub append_count : (bytes : List ℕ) → Pushed old new (Append bytes) → length (seen_of old) ≡ length (seen_of new)
  append_count bytes p = sym (ap length (append_seen bytes p) ∙ length_on_last (λ s. s ++ bytes) (seen_of old))

  pub append_own : (bytes : List ℕ) → Pushed old new (Append bytes) → HasOwn new
  append_own bytes p = own_after old new (Append bytes) p.calls tt

  pub cut_seen : (len : ℕ) → Pushed old new (SetLen len) → seen_of new ≡ on_last (take len) (seen_of old)
  cut_seen len p = seen_after old new (SetLen len) p.calls

  pub cut_left : (len : ℕ) → Pushed old new (SetLen len) → (c : Segments) → MayLeave new c → IsCutEnd len (seen_of old) c
  cut_left len p c left = left_after old new (SetLen len) p.calls c left

  pub cut_count : (len : ℕ) → Pushed old new (SetLen len) → length (seen_of old) ≡ length (seen_of new)
  cut_count len p = sym (ap length (cut_seen len p) ∙ length_on_last (take len) (seen_of old))

  pub cut_own : (len : ℕ) → Pushed old new (SetLen len) → HasOwn new
  cut_own len p = own_after old new (SetLen len) p.calls tt

  pub create_seen : Pushed old new CreateNext → seen_of new ≡ seen_of old ++ [] ∷ []
  create_seen p = seen_after old new CreateNext p.calls

  pub create_left : Pushed old new CreateNext → (c : Segments) → MayLeave new c → IsBegun (seen_of old) c
  create_left p c left = left_after old new CreateNext p.calls c left

  pub create_count : Pushed old new CreateNext → length (seen_of old) + 1 ≡ length (seen_of new)
  create_count p = omega (arith, ap length (create_seen p), length-append (seen_of old) ([] ∷ []))

  pub create_own : Pushed old new CreateNext → HasOwn new
  create_own p = own_after old new CreateNext p.calls tt

  -- a sync of the bytes
  pub data_synced_seen : Pushed old new SyncData → seen_of new ≡ seen_of old
  data_synced_seen p =
      seen_after old new SyncData p.calls ∙ data_seen (state_of old).under_way (state_of old).on_disk

  pub data_synced_fewer : Pushed old new SyncData → NoMore (MayLeave old) (MayLeave new)
  data_synced_fewer p c left =
      data_fewer (state_of old).under_way (state_of old).on_disk c (left_after old new SyncData p.calls c left)

  pub data_synced_sure : HasOwn old → Pushed old new SyncData → IsSureIfAll (seen_of new) (MayLeave new)
  data_synced_sure own p c left e =
      data_sure (state_of old).under_way (state_of old).on_disk c own (left_after old new SyncData p.calls c left) (e ∙ ap length (data_synced_seen p))
      ∙ sym (data_synced_seen p)

  pub data_synced_own : HasOwn old → Pushed old new SyncData → HasOwn new
  data_synced_own own p = own_after old new SyncData p.calls (data_own (state_of old).under_way (state_of old).on_disk own)

  -- a sync of the folder
  pub folder_synced_seen : Pushed old new SyncFolder → seen_of new ≡ seen_of old
  folder_synced_seen p =
      seen_after old new SyncFolder p.calls ∙ folder_seen (state_of old).under_way (state_of old).on_disk

  pub folder_synced_fewer : Pushed old new SyncFolder → NoMore (MayLeave old) (MayLeave new)
  folder_synced_fewer p c left =
      folder_fewer (state_of old).under_way (state_of old).on_disk c (left_after old new SyncFolder p.calls c left)

  pub folder_synced_all : HasOwn old → Pushed old new SyncFolder → HasAll (seen_of new) (MayLeave new)
  folder_synced_all own p c left =
      folder_all (state_of old).under_way (state_of old).on_disk c own (left_after old new SyncFolder p.calls c left)
      ∙ ap length (sym (folder_synced_seen p))

  pub folder_synced_own : HasOwn old → Pushed old new SyncFolder → HasOwn new
  folder_synced_own own p = own_after old new SyncFolder p.calls (folder_own (state_of old).under_way (state_of old).on_disk own)
