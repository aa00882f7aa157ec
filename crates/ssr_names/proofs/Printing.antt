-- Paths that are printed.
use Rattle.std.proofs.Common.{ℕ, ◌≡◌, ◌+◌, ◌<◌, ◌⊎◌, inl, inr, Bool, true, false, cond, ◌==◌, List, [], ◌∷◌, ◌++◌, length, take, get_or, slice_get, codes, Option, Some, None, refl, sym, ap, ◌∙◌, subst}
use Rattle.std.proofs.lemmas.Option.{none-some, same_Some}
use Rattle.std.specs.Prelude.{IfOk, IfSome, OnOk, Result, Ok, Err, String, string_bytes}
use Rattle.std.specs.BTreeMap.{BTreeMap, Updates, get, is_at}
use Rattle.std.specs.Map.{lookup}
use Rattle.std.specs.Cmp.{both_tied, unsigned_ties}
use Rattle.std.proofs.lemmas.Bool.{and_parts, eqb-true}
use Rattle.std.specs.Option.{option_map}
use Rattle.std.specs.declared.alloc.Global.{Global}
use Rattle.ssr_base_trees.specs.declared.ids.ScopeId.{ScopeId}
use Rattle.ssr_base_trees.specs.declared.ids.DefId.{DefId}
use Rattle.ssr_names_items.specs.declared.names.Names.{Names as Numbers}
use Rattle.ssr_names_items.specs.declared.table.Name.{Name}
use Rattle.ssr_names_items.specs.declared.table.ModuleNo.{ModuleNo}
use Rattle.ssr_names_items.specs.declared.table.Start.{Start}
use Rattle.ssr_names_items.specs.declared.table.Namespace.{Namespace}
use Rattle.ssr_names_items.specs.declared.table.Namespace.TheVariants as ns
use Rattle.ssr_names.specs.contracts.provider.PrintedKeyOrd.TheImpl as printed_order
use Rattle.ssr_names.specs.declared.definitions.Definition.{Definition}
use Rattle.ssr_names.specs.declared.printed.Written.{Written}
use Rattle.ssr_names.specs.declared.provider.Names.{Names}
use Rattle.ssr_names.specs.declared.provider.PrintedKey.{PrintedKey}
use Rattle.ssr_names.specs.declared.space.Space.{Space}
use Rattle.ssr_names.specs.Lookup.{Place}
use Rattle.ssr_names.specs.Printed.{EndsWithName, EndsWithNames, LeadsFrom, LeadsTo, PathsLead, Spells, ends_with_more, front_text}
use Rattle.ssr_names.specs.Provider.{told}
use Rattle.ssr_names.specs.WholePaths.{WholeStandsFor}
use Rattle.ssr_names.proofs.Following.{name_more}
use Rattle.ssr_names.specs.Private.Printed.{AllLead, IsPathOf, IsPrintedMore, Leads, is_in}

-- ** Where a path leads.

-- a path that leads to what is written in each of its namespaces leads there in one
leads_to : (space : Space) (m : ModuleNo) (written : Written) (text : List ℕ) → IsPathOf space m written text → LeadsTo space m text written.definition
leads_to space m written text is = record {
  start = is.start;
  names = is.names;
  spelled = is.spelled;
  namespace = is.leads.namespace;
  stands = is.leads.each is.leads.namespace is.leads.among;
}

-- what is found is found of another property too, if that follows
pub found_too : {T E : Type 0} (r : Result (Option T) E) (P Q : T → Type 0) → ((x : T) → P x → Q x) → IfOk r (λ o. IfSome o P) → IfOk r (λ o. IfSome o Q)
found_too (Ok None) P Q follows had = tt
found_too (Ok (Some x)) P Q follows had = follows x had
found_too (Err e) P Q follows had = tt

-- ** How it is spelled.

-- one more name behind a text of names
pub one_name_more : (numbers : Numbers) (front : List ℕ) (first : Name) (others : List Name) (i : ℕ) (name : Name) (before mid text : List ℕ) → i < length others
    → get_or others i name ≡ name → EndsWithNames numbers front (first ∷ take i others) before → mid ≡ before ++ codes "::" → EndsWithName numbers name mid text
    → EndsWithNames numbers front (first ∷ take (i + 1) others) text
one_name_more numbers front first others i name before mid text within is so_far parted here =
    subst (λ (all : List Name). EndsWithNames numbers front (first ∷ all) text) (sym (name_more others i name within is))
    (ends_with_more (first ∷ take i others) name before text so_far (subst (λ (m : List ℕ). EndsWithName numbers name m text) parted here))

-- names behind what a path begins with
pub spells : (numbers : Numbers) (start : Start) (names : List Name) (front : List ℕ) (first : Name) (others : List Name) (text : List ℕ) → front_text start ≡ Some front
    → names ≡ first ∷ others → EndsWithNames numbers front (first ∷ others) text → Spells numbers start names text
spells numbers start names front first others text begins is ends =
    record { front = front; begins = begins; ends = subst (λ (all : List Name). EndsWithNames numbers front all text) (sym is) ends }

pub path_of : (space : Space) (m : ModuleNo) (written : Written) (start : Start) (names : List Name) (text : List ℕ) → Spells space.table.now.names start names text
    → Leads space (record { start = start; within = m; import = None }) names written → IsPathOf space m written text
path_of space m written start names text spelled leads = record { start = start; names = names; spelled = spelled; leads = leads }

-- ** The rows.

-- keys that their order doesn't tell apart are the same
same_keys : (a b : PrintedKey) → is_at ((printed_order.ghosts).cmp a) b ≡ true → a ≡ b
same_keys a b tied =
    let parts = and_parts (a.scope.0 == b.scope.0) (a.def.0 == b.def.0) (both_tied _ _ _ _ (unsigned_ties a.scope.0 b.scope.0) (unsigned_ties a.def.0 b.def.0) ∙ tied) in
    let key : ℕ → ℕ → PrintedKey = λ scope def. record { scope = record { 0 = scope }; def = record { 0 = def } } in
    ap (λ n. key n a.def.0) (eqb-true a.scope.0 b.scope.0 parts.0) ∙ ap (key b.scope.0) (eqb-true a.def.0 b.def.0 parts.1)

-- a text that is put under a key is there, and each other one stays
pub added_at : (old new : BTreeMap PrintedKey (String Global)) (key : PrintedKey) (text : String Global)
    → Updates ((printed_order.ghosts).cmp) old new key (Some text) → IsPrintedMore old new key text
added_at old new key text updates other told is = from (is_at ((printed_order.ghosts).cmp key) other) refl
  where
    from : (b : Bool) → is_at ((printed_order.ghosts).cmp key) other ≡ b → (get ((printed_order.ghosts).cmp) old other ≡ Some told) ⊎ ((other ≡ key) × (told ≡ text))
    from false apart = inl (sym (updates.2 other apart) ∙ is)
    from true tied = inr (
      sym (same_keys key other tied),
      sym (same_Some text told (sym (updates.0 other ∙ ap (λ b. cond b (Some text) (get ((printed_order.ghosts).cmp) old other)) tied) ∙ is)),
    )

module _ (space : Space) (definitions : List Definition) where
  pub leads_by : (scope : ScopeId) (number : DefId) (written : Written) (text : List ℕ) → slice_get definitions number.0 ≡ Some written.definition
      → IsPathOf space (record { 0 = scope.0 }) written text → LeadsFrom space definitions scope number text
  leads_by scope number written text numbered is =
      record { definition = written.definition; numbered = numbered; leads = leads_to space (record { 0 = scope.0 }) written text is }

  pub none_lead : (printed : BTreeMap PrintedKey (String Global)) → printed.entries ≡ [] → AllLead space definitions printed
  none_lead printed empty key text is =
      absurd (none-some text (sym (ap (λ (rows : List (PrintedKey × String Global)). lookup (is_at ((printed_order.ghosts).cmp key)) rows) empty) ∙ is))

  pub lead_more : (old new : BTreeMap PrintedKey (String Global)) (added : PrintedKey) (text : String Global) → IsPrintedMore old new added text
      → LeadsFrom space definitions added.scope added.def (string_bytes text) → AllLead space definitions old → AllLead space definitions new
  lead_more old new added text more here all key told is =
      elim (more key told is) [
        | inl had ↦ all key told had
        | inr one ↦ subst (λ (k : PrintedKey). LeadsFrom space definitions k.scope k.def (string_bytes told)) (sym one.0)
            (subst (λ (t : String Global). LeadsFrom space definitions added.scope added.def (string_bytes t)) (sym one.1) here)
      ]

  -- what rows have, the provider by these rows tells
  pub paths_lead : (names : Names) → AllLead space definitions names.printed → PathsLead space definitions (told names)
  paths_lead names all scope number text is = from (get ((printed_order.ghosts).cmp) names.printed (record { scope = scope; def = number })) refl is
    where
      from : (o : Option (String Global)) → get ((printed_order.ghosts).cmp) names.printed (record { scope = scope; def = number }) ≡ o → option_map string_bytes o ≡ Some text
          → LeadsFrom space definitions scope number text
      from None held none = absurd (none-some text none)
      from (Some t) held one = subst (LeadsFrom space definitions scope number) (same_Some (string_bytes t) text one) (all (record { scope = scope; def = number }) t held)
