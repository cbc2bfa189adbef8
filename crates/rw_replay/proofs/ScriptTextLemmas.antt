-- A script is read line by line.
use Rattle.std.proofs.Common.{◌≡◌, ◌<◌, ◌≤◌, ◌+◌, ◌&&◌, ◌||◌, ℕ, List, [], ◌∷◌, ◌++◌, length, map, Bool, true, false, refl, sym, ap, ap₂, ◌∙◌, subst, arith}
use Rattle.std.specs.List.{list_any}
use Rattle.std.proofs.lemmas.List.{length-append, append-nil, map_push}
use Rattle.rw_text.specs.RecordLines.{lines}
use Rattle.rw_replay.specs.declared.ways.Ways.{Ways}
use Rattle.rw_replay.specs.declared.command.Command.{Command}
use Rattle.rw_replay.specs.ScriptText.{Order, IsOrder, order_of}
use Rattle.rw_replay.specs.Scripts.{is_log, is_piece, is_mixed, AreOrders, IsScript, IsBadScriptLine}
use Rattle.rw_replay.specs.inner.Ways.{AreWaysOf, are_both, with_order}
use Rattle.rw_text.proofs.shared.LineLemmas.{next_parts}

-- ---- ways

any-append : (f : Order → Bool) (orders : List Order) (o : Order) → list_any f (orders ++ o ∷ []) ≡ (list_any f orders || f o)
any-append f [] o = or_false (f o) where
  or_false : (b : Bool) → (b || false) ≡ b
  or_false true = refl
  or_false false = refl
any-append f (x ∷ xs) o = ap (λ (b : Bool). f x || b) (any-append f xs o) ∙ or_assoc (f x) (list_any f xs) (f o) where
  or_assoc : (a b c : Bool) → (a || (b || c)) ≡ ((a || b) || c)
  or_assoc true b c = refl
  or_assoc false b c = refl

ways_more : (w : Ways) (orders : List Order) (o : Order) → AreWaysOf w orders → AreWaysOf (with_order w o) (orders ++ o ∷ [])
ways_more w orders o h = record {
  log = ap (λ (b : Bool). b || is_log o) h.log ∙ sym (any-append is_log orders o);
  pieces = ap (λ (b : Bool). b || is_piece o) h.pieces ∙ sym (any-append is_piece orders o);
}

mixed-ways : (w : Ways) (orders : List Order) → AreWaysOf w orders → is_mixed orders ≡ are_both w
mixed-ways w orders h = ap₂ (λ (a b : Bool). a && b) (sym h.log) (sym h.pieces)

mixed-more : (w : Ways) (orders : List Order) (o : Order) → AreWaysOf w orders → is_mixed (orders ++ o ∷ []) ≡ are_both (with_order w o)
mixed-more w orders o h = mixed-ways (with_order w o) (orders ++ o ∷ []) (ways_more w orders o h)

-- ---- orders

orders_join : (front : List (List ℕ)) (more : List (List ℕ)) (orders others : List Order) → AreOrders front orders → AreOrders more others → AreOrders (front ++ more) (orders ++ others)
orders_join [] more orders others h i = rw h i
orders_join ([] ∷ front) more orders others h i = orders_join front more orders others h i
orders_join ((b ∷ bs) ∷ front) more [] others h i = absurd h
orders_join ((b ∷ bs) ∷ front) more (o ∷ orders) others h i = (h.0, orders_join front more orders others h.1 i)

one_order : (line : List ℕ) (o : Order) → 0 < length line → IsOrder line o → AreOrders (line ∷ []) (o ∷ [])
one_order [] o some h = absurd (omega arith)
one_order (b ∷ bs) o some h = (h, refl)

no_order : (line : List ℕ) → length line ≡ 0 → AreOrders (line ∷ []) []
no_order [] e = refl
no_order (b ∷ bs) e = absurd (omega arith)

-- the lines before `rest` were read
pub record Begun (text rest : List ℕ) (number : ℕ) (orders : List Order) (w : Ways) : Type 0 where
  pub front : List (List ℕ)
  pub parts : lines text ≡ front ++ lines rest
  pub place : number ≡ length front
  pub good : AreOrders front orders
  pub ways : AreWaysOf w orders
  pub one_way : are_both w ≡ false
  pub bound : number + length rest ≤ length text

pub begun : (text : List ℕ) → Begun text text 0 [] (record { log = false; pieces = false })
begun text = record { front = []; parts = refl; place = refl; good = refl; ways = record { log = refl; pieces = refl }; one_way = refl; bound = omega arith }

pub begun_more : (text rest line more : List ℕ) (number : ℕ) (orders : List Order) (w : Ways) (o : Order) → Begun text rest number orders w → lines rest ≡ line ∷ lines more → length more < length rest
    → (0 < length line) × IsOrder line o × (are_both (with_order w o) ≡ false) → Begun text more (number + 1) (orders ++ o ∷ []) (with_order w o)
begun_more text rest line more number orders w o b e shorter h = record {
  front = b.front ++ line ∷ [];
  parts = next_parts text rest line more b.front b.parts e;
  place = omega (arith, b.place, length-append b.front (line ∷ []));
  good = orders_join b.front (line ∷ []) orders (o ∷ []) b.good (one_order line o h.0 h.1);
  ways = ways_more w orders o b.ways;
  one_way = h.2;
  bound = omega (arith, b.bound);
}

pub begun_added : (text rest line more : List ℕ) (number : ℕ) (commands longer : List Command) (w later : Ways) (c : Command) → Begun text rest number (map order_of commands) w
    → lines rest ≡ line ∷ lines more → length more < length rest → (0 < length line) × IsOrder line (order_of c) × (are_both (with_order w (order_of c)) ≡ false)
    → later ≡ with_order w (order_of c) → longer ≡ commands ++ c ∷ [] → Begun text more (number + 1) (map order_of longer) later
begun_added text rest line more number commands longer w later c b e shorter h f g =
    subst (λ (v : Ways). Begun text more (number + 1) (map order_of longer) v) (sym f)
    (subst (λ (orders : List Order). Begun text more (number + 1) orders (with_order w (order_of c))) (sym (ap (map order_of) g ∙ map_push order_of commands c))
    (begun_more text rest line more number (map order_of commands) w (order_of c) b e shorter h))

pub begun_empty : (text rest line more : List ℕ) (number : ℕ) (orders : List Order) (w : Ways) → Begun text rest number orders w → lines rest ≡ line ∷ lines more → length more < length rest
    → length line ≡ 0 → Begun text more (number + 1) orders w
begun_empty text rest line more number orders w b e shorter h = record {
  front = b.front ++ line ∷ [];
  parts = next_parts text rest line more b.front b.parts e;
  place = omega (arith, b.place, length-append b.front (line ∷ []));
  good = subst (AreOrders (b.front ++ line ∷ [])) (append-nil orders) (orders_join b.front (line ∷ []) orders [] b.good (no_order line h));
  ways = b.ways;
  one_way = b.one_way;
  bound = omega (arith, b.bound);
}

pub begun_bad : (text rest line more : List ℕ) (number : ℕ) (orders : List Order) (w : Ways) → Begun text rest number orders w → lines rest ≡ line ∷ lines more
    → (0 < length line) × ((o : Order) → IsOrder line o → are_both (with_order w o) ≡ true) → IsBadScriptLine text (number + 1)
begun_bad text rest line more number orders w b e h = record {
  front = b.front;
  line = line;
  later = lines more;
  parts = b.parts ∙ ap (λ (t : List (List ℕ)). b.front ++ t) e;
  place = omega (arith, b.place);
  orders = orders;
  good = b.good;
  one_way = mixed-ways w orders b.ways ∙ b.one_way;
  some = h.0;
  bad = λ o i. mixed-more w orders o b.ways ∙ h.1 o i;
}

pub begun_all : (text rest : List ℕ) (number : ℕ) (orders : List Order) (w : Ways) → Begun text rest number orders w → rest ≡ [] → IsScript text orders
begun_all text rest number orders w b e = record {
  are_orders =
      let whole : lines text ≡ b.front = b.parts ∙ ap (λ (t : List ℕ). b.front ++ lines t) e ∙ append-nil b.front in
      subst (λ (ls : List (List ℕ)). AreOrders ls orders) (sym whole) b.good;
  one_way = mixed-ways w orders b.ways ∙ b.one_way;
}
