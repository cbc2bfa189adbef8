-- Records that are written after others.
use Rattle.std.proofs.Common.{◌≡◌, ◌+◌, ℕ, List, [], ◌∷◌, ◌++◌, length, add-zero, sym, ap, ◌∙◌, arith, append_assoc}
use Rattle.std.proofs.lemmas.List.{length-append}
use Rattle.rw_wal_format.specs.Laws.{log_all}
use Rattle.rw_wal_format.specs.Writing.{log_bytes}

pub log_all-append : (page offset : ℕ) (recs others : List (List ℕ)) → log_all page offset (recs ++ others) ≡ log_all page offset recs ++ log_all page (offset + length (log_all page offset recs)) others
log_all-append page offset [] others = ap (λ (n : ℕ). log_all page n others) (sym (add-zero offset))
log_all-append page offset (rec ∷ recs) others =
    let one : List ℕ = log_bytes page offset rec in
    let all : List ℕ = log_all page (offset + length one) recs in
    let place : offset + length one + length all ≡ offset + length (one ++ all) = omega (arith, length-append one all) in
    ap (λ (t : List ℕ). one ++ t) (log_all-append page (offset + length one) recs others)
    ∙ sym (append_assoc one all (log_all page (offset + length one + length all) others))
    ∙ ap (λ (n : ℕ). (one ++ all) ++ log_all page n others) place
