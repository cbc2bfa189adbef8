-- Rules, one after the other.
use Rattle.std.proofs.Common.{◌≡◌, ◌⊎◌, inl, inr, ℕ, ◌+◌, zero, suc, ◌<◌, List, [], ◌∷◌, ◌++◌, length, get_or, drop, All, Any, Some, None, Result, Ok, Err, cond, refl, sym, ◌∙◌, ap, subst, append_assoc, arith}
use Rattle.std.specs.Result.{IsErrAnd, IfErr}
use Rattle.std.proofs.lemmas.List.Elements.{All-push}
use Rattle.toml.specs.Data.{as_table, no_members}
use Rattle.toml.specs.View.{view, items_view}
use Rattle.toml.specs.declared.value.Value.{Value}
use Rattle.toml.proofs.Views.{items_view-drop}
use Rattle.rw_relabel.specs.Patterns.{HasReadablePattern}
use Rattle.rw_relabel.specs.Rules.{RuleConfig}
use Rattle.rw_settings.specs.RuleTables.{rule_config, rules_of}
use Rattle.rw_settings.specs.Settings.{IsRefusedRule}
use Rattle.rw_settings.specs.Values.{are_texts, labels_fault, part_or}
use Rattle.rw_settings.specs.declared.fault.SettingsFault.{SettingsFault}
use Rattle.rw_settings.specs.declared.fault.SettingsFault.TheVariants.{OutOfMemory, WrongType, BadRule}

-- what is wrong with source labels, if there are some
pub labels_judged : (values : List Value) → ¬ (values ≡ []) → labels_fault (Some (items_view values)) ≡ cond (are_texts (items_view values)) None (Some WrongType)
labels_judged [] h = absurd (h refl)
labels_judged (v ∷ vs) h = refl

-- rules that were built, with readable patterns, before those that are still to come
pub record AreBuilt (built rest all : List RuleConfig) : Type 0 where
  pub whole : built ++ rest ≡ all
  pub readable : All (λ rule. HasReadablePattern rule.pattern) built

-- the rule of a value
abbrev rule_in : Value → RuleConfig
rule_in v = rule_config (part_or no_members (as_table (view v)))

-- the next rule of those to come
next_rule : (vs : List Value) (i : ℕ) (v : Value) → i < length vs → v ≡ get_or vs i v → rules_of (items_view (drop i vs)) ≡ rule_in v ∷ rules_of (items_view (drop (i + 1) vs))
next_rule vs i v h is =
    ap rules_of (items_view-drop vs i v h) ∙ ap (λ w. rule_in w ∷ rules_of (items_view (drop (i + 1) vs))) (sym is)

-- one more is built
pub built_one_more : (vs : List Value) (i : ℕ) (v : Value) (built : List RuleConfig) (r : RuleConfig) (all : List RuleConfig) → i < length vs → v ≡ get_or vs i v
    → AreBuilt built (rules_of (items_view (drop i vs))) all → r ≡ rule_in v → HasReadablePattern r.pattern
    → AreBuilt (built ++ r ∷ []) (rules_of (items_view (drop (i + 1) vs))) all
built_one_more vs i v built r all h is before same readable =
    let rest = rules_of (items_view (drop (i + 1) vs)) in
    record {
      whole =
          append_assoc built (r ∷ []) rest ∙ ap (λ x. built ++ x ∷ rest) same ∙ ap (λ x. built ++ x) (sym (next_rule vs i v h is)) ∙ before.whole;
      readable = All-push (λ rule. HasReadablePattern rule.pattern) built r before.readable readable;
    }

-- something is in the middle of a list
any_middle : {X : Type 0} (P : X → Type 0) (front : List X) (x : X) (back : List X) → P x → Any P (front ++ x ∷ back)
any_middle P [] x back p = (zero, x, omega arith, refl, p)
any_middle P (y ∷ front) x back p =
    let found = any_middle P front x back p in
    (suc found.0, found.1, omega (arith, found.2), found.3, found.4)

-- one is refused
pub refused_one : (vs : List Value) (i : ℕ) (v : Value) (built all : List RuleConfig) (f : SettingsFault) → i < length vs → v ≡ get_or vs i v
    → AreBuilt built (rules_of (items_view (drop i vs))) all → (f ≡ OutOfMemory) ⊎ ((f ≡ BadRule) × IsRefusedRule (rule_in v))
    → (f ≡ OutOfMemory) ⊎ ((f ≡ BadRule) × Any IsRefusedRule all)
refused_one vs i v built all f h is before (inl e) = inl e
refused_one vs i v built all f h is before (inr (e, refused)) =
    let whole = ap (λ x. built ++ x) (sym (next_rule vs i v h is)) ∙ before.whole in
    inr (e, subst (Any IsRefusedRule) whole (any_middle IsRefusedRule built (rule_in v) (rules_of (items_view (drop (i + 1) vs))) refused))

-- a fault that is handed on keeps what is known of it
pub fault_kept : {A : Type 0} (result : Result A SettingsFault) (f : SettingsFault) (P : SettingsFault → Type 0) → IsErrAnd result (λ g. g ≡ f) → P f → IfErr result P
fault_kept (Ok x) f P is p = tt
fault_kept (Err g) f P is p = subst P (sym is) p
