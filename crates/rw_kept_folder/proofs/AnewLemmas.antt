-- The state of a folder after its segments were loaded, and after the last one was written anew.
use Rattle.std.proofs.Common.{◌≡◌, ℕ, ◌+◌, List, [], ◌∷◌, ◌++◌, length, Option, Some, None, Vec, refl, sym, ap, ◌∙◌, subst, append_assoc, length-append, arith}
use Rattle.std.proofs.lemmas.List.{map-append}
use Rattle.std.specs.declared.alloc.Global.{Global}
use Rattle.rw_kept_log.specs.Journal.{Segments, Only}
use Rattle.rw_kept_folder.specs.declared.file_call.FileCall.{FileCall}
use Rattle.rw_kept_folder.specs.declared.file_call.FileCall.TheVariants.{Load, WriteCopy, SyncCopy, RenameCopy, SyncFolder}
use Rattle.rw_kept_folder.specs.Noted.{Noted, UnderWay, Nothing, Loaded, FolderState, seen_in, LeftIn, step, after_calls, no_segments, state_of, seen_of, MayLeave}
use Rattle.rw_kept_folder.specs.inner.Noted.{loads_of}
use Rattle.rw_kept_folder.specs.inner.Loaded.{IsHeld, IsLastRead, IsLoaded}
use Rattle.rw_kept_folder.proofs.NotedLemmas.{Pushed, same_step}

append-assoc-one : (xs : Segments) (x : List ℕ) (ys : Segments) → (xs ++ x ∷ []) ++ ys ≡ xs ++ x ∷ ys
append-assoc-one [] x ys = refl
append-assoc-one (z ∷ xs) x ys = ap (λ (l : Segments). z ∷ l) (append-assoc-one xs x ys)

append-none : (xs : Segments) → xs ++ [] ≡ xs
append-none [] = refl
append-none (x ∷ xs) = ap (λ (l : Segments). x ∷ l) (append-none xs)

-- what was loaded is seen
loaded_seen_from : (s : FolderState) (texts : Segments) → seen_in (after_calls s (loads_of texts)) ≡ seen_in s ++ texts
loaded_seen_from s [] = sym (append-none (seen_in s))
loaded_seen_from s (t ∷ texts) =
    loaded_seen_from (record { on_disk = seen_in s; under_way = Loaded t }) texts
    ∙ append-assoc-one (seen_in s) t texts

-- and the last segment is under way
last_loaded_from : (s : FolderState) (front : Segments) (text : List ℕ) → (after_calls s (loads_of (front ++ text ∷ []))).under_way ≡ Loaded text
last_loaded_from s [] text = refl
last_loaded_from s (t ∷ front) text = last_loaded_from (record { on_disk = seen_in s; under_way = Loaded t }) front text

module _ (noted : Noted) (texts : Segments) (calls : noted.calls ≡ loads_of texts) where
  loaded_seen : seen_of noted ≡ texts
  loaded_seen = ap (λ (cs : List FileCall). seen_in (after_calls no_segments cs)) calls ∙ loaded_seen_from no_segments texts

  last_loaded : (front : Segments) (text : List ℕ) → texts ≡ front ++ text ∷ [] → (state_of noted).under_way ≡ Loaded text
  last_loaded front text is =
      ap (λ (cs : List FileCall). (after_calls no_segments cs).under_way) (calls ∙ ap loads_of is)
      ∙ last_loaded_from no_segments front text

-- the four steps, from a state in which the last segment was loaded
anew_state : (d : Segments) (u : UnderWay) (text : List ℕ) → u ≡ Loaded text
    → step SyncFolder (step RenameCopy (step SyncCopy (step (WriteCopy text) (record { on_disk = d; under_way = u }))))
    ≡ record { on_disk = seen_in (record { on_disk = d; under_way = u }); under_way = Nothing }
anew_state d u text is =
    subst (λ (v : UnderWay). step SyncFolder (step RenameCopy (step SyncCopy (step (WriteCopy text) (record { on_disk = d; under_way = v }))))
    ≡ record { on_disk = seen_in (record { on_disk = d; under_way = v }); under_way = Nothing }) (sym is) refl

module _ (loaded copied synced renamed done : Noted) (text : List ℕ) (last : (state_of loaded).under_way ≡ Loaded text)
    (copy : Pushed loaded copied (WriteCopy text)) (sync : Pushed copied synced SyncCopy) (rename : Pushed synced renamed RenameCopy) (folder : Pushed renamed done SyncFolder)
  where
    done_state : state_of done ≡ record { on_disk = seen_of loaded; under_way = Nothing }
    done_state =
        same_step renamed done SyncFolder folder.calls
        ∙ ap (step SyncFolder) (same_step synced renamed RenameCopy rename.calls
        ∙ ap (step RenameCopy) (same_step copied synced SyncCopy sync.calls
        ∙ ap (step SyncCopy) (same_step loaded copied (WriteCopy text) copy.calls)))
        ∙ anew_state (state_of loaded).on_disk (state_of loaded).under_way text last

    anew_seen : seen_of done ≡ seen_of loaded
    anew_seen = ap seen_in done_state

    anew_only : Only (seen_of done) (MayLeave done)
    anew_only = subst (λ (s : FolderState). Only (seen_in s) (LeftIn s)) (sym done_state) (λ c left. left)

-- no segment was read yet
pub loaded_none : (before : Segments) (calls : List FileCall) (last : Option (Vec ℕ Global)) → calls ≡ [] → last ≡ None → IsLoaded before before calls last 0
loaded_none before calls last none is = record {
  segments = [];
  noted = none;
  taken = sym (append-none before);
  last_is = subst (IsLastRead []) (sym is) refl;
  counted = refl;
}

-- one more was read, noted and taken
pub loaded_more : (before now after : Segments) (calls more : List FileCall) (last : Option (Vec ℕ Global)) (text : Vec ℕ Global) (n : ℕ) → IsLoaded before now calls last n
    → more ≡ calls ++ Load text.items ∷ [] → after ≡ now ++ text.items ∷ [] → IsLoaded before after more (Some text) (n + 1)
loaded_more before now after calls more last text n h noted taken = record {
  segments = h.segments ++ text.items ∷ [];
  noted = noted ∙ ap (λ (cs : List FileCall). cs ++ Load text.items ∷ []) h.noted ∙ sym (map-append Load h.segments (text.items ∷ []));
  taken = taken ∙ ap (λ (ss : Segments). ss ++ text.items ∷ []) h.taken ∙ append_assoc before h.segments (text.items ∷ []);
  last_is = (h.segments, refl);
  counted = omega (arith, h.counted, length-append h.segments (text.items ∷ []));
}

-- a folder of no segments
pub held_none : (before after : Segments) (noted : Noted) (count : ℕ) → IsLoaded before after noted.calls None count → IsHeld before after noted count
held_none before after noted count h =
    let seen : seen_of noted ≡ [] = loaded_seen noted h.segments h.noted ∙ h.last_is in
    let state : state_of noted ≡ no_segments = ap (after_calls no_segments) (h.noted ∙ ap loads_of h.last_is) in
    record {
      taken = h.taken ∙ ap (λ (ss : Segments). before ++ ss) (sym (loaded_seen noted h.segments h.noted));
      synced = subst (λ (s : FolderState). Only (seen_in s) (LeftIn s)) (sym state) (λ c left. left);
      counted = h.counted ∙ ap length (sym (loaded_seen noted h.segments h.noted));
    }

-- a folder whose last segment was written anew
pub held_anew : (before after : Segments) (loaded copied synced renamed done : Noted) (last : Vec ℕ Global) (copy : List ℕ) (count : ℕ) → copy ≡ last.items
    → Pushed loaded copied (WriteCopy copy) → Pushed copied synced SyncCopy → Pushed synced renamed RenameCopy → Pushed renamed done SyncFolder
    → IsLoaded before after loaded.calls (Some last) count → IsHeld before after done count
held_anew before after loaded copied synced renamed done last copy count is write sync rename folder h =
    let way : (state_of loaded).under_way ≡ Loaded copy = last_loaded loaded h.segments h.noted h.last_is.0 last.items h.last_is.1 ∙ ap Loaded (sym is) in
    let seen : seen_of done ≡ h.segments = anew_seen loaded copied synced renamed done copy way write sync rename folder ∙ loaded_seen loaded h.segments h.noted in
    record {
      taken = h.taken ∙ ap (λ (ss : Segments). before ++ ss) (sym seen);
      synced = anew_only loaded copied synced renamed done copy way write sync rename folder;
      counted = h.counted ∙ ap length (sym seen);
    }
