-- What the code of the matcher answers for a qualified call and a method call, pair by pair.
use Rattle.std.proofs.Common.{◌≡◌, ℕ, Bool, true, false, cond, List, [], ◌∷◌, ◌++◌, length, Option, Some, None, refl, sym, ◌∙◌, ap, subst, option_to_list, is_some, not}
use Rattle.std.specs.Prelude.{◌==◌, map}
use Rattle.std.specs.Option.{option_and_then, option_map}
use Rattle.std.specs.Iterator.{YieldsFirst}
use Rattle.std.proofs.lemmas.Bool.{eqb-true, eq-eqb}
use Rattle.std.proofs.lemmas.List.{length-map, map-append}
use Rattle.ssr_syntax_tree.specs.declared.number.Element.{Element}
use Rattle.ssr_syntax_tree.specs.declared.number.NodeNo.{NodeNo}
use Rattle.ssr_syntax_tree.specs.Syntax.{Syntax}
use Rattle.ssr_syntax_tree.specs.Places.{Part, node_part, part_of, node_of}
use Rattle.ide_ssr_bindings.specs.declared.bindings.Binding.{Binding}
use Rattle.ide_ssr_bindings.specs.declared.receivers.Receiver.{Receiver}
use Rattle.ide_ssr_bindings.specs.Receivers.{received}
use Rattle.ide_ssr_token_trees.specs.Bindings.{joined, Answers, matched, other}
use Rattle.ide_ssr_token_trees.specs.Recording.{Recorded, emptied, recorded, recorded_with}
use Rattle.ide_ssr_matching.specs.declared.calls.MethodNodes.{MethodNodes}
use Rattle.ide_ssr_matching.specs.Bindings.{Binder, pair_by, pairs_by, sides_by}
use Rattle.ide_ssr_matching.specs.Calls.{child_nodes, PathCall, Method, method_pairs, alike_pairs}
use Rattle.ide_ssr_matching.specs.Children.{bare}
use Rattle.ide_ssr_matching.specs.Sides.{Sides, kept}
use Rattle.ide_ssr_matching.specs.UsedPaths.{arguments_of}
use Rattle.ide_ssr_matching.specs.Private.Bindings.{generics_by, arguments_by}
use Rattle.ide_ssr_matching.specs.Private.Calls.{arguments_at}
use Rattle.ide_ssr_matching.specs.Private.ChildNodes.{nodes_at}
use Rattle.ide_ssr_matching.proofs.Pairs.{PairedSoFar, paired-starts, both-end, one-left, joined_assoc, joined-none, lacking, unmatched, unequal}

-- nodes as parts
abbrev pub node_parts : Syntax → List NodeNo → List Part
node_parts tree nodes = map node_part (nodes_at tree nodes)

-- ** Generic arguments, of which the code has one list or none.

pub generics-start : (inner : Binder) (pattern code lent : Syntax) (n : ℕ) (generics : Option NodeNo) (ps : List Element) (old : Recorded) → lent ≡ pattern
    → map (part_of lent) ps ≡ arguments_of (node_of lent n)
    → PairedSoFar inner (generics_by inner (node_of pattern n) (nodes_at code (option_to_list generics))) (bare (map (part_of pattern) ps))
    (node_parts code (option_to_list generics)) old old
generics-start inner pattern code lent n generics ps old lent_is ps_are =
    let cs = node_parts code (option_to_list generics) in
    paired-starts inner (generics_by inner (node_of pattern n) (nodes_at code (option_to_list generics))) (bare (map (part_of pattern) ps)) cs
    (bare (arguments_of (node_of pattern n))) cs old refl
    (ap bare (subst (λ s. map (part_of s) ps ≡ arguments_of (node_of s n)) lent_is ps_are)) refl

pub generics-none : (code : Syntax) (left : Option NodeNo) → left ≡ None → node_parts code (option_to_list left) ≡ []
generics-none code left none = ap (λ o. node_parts code (option_to_list o)) none

pub generics-taken : (code : Syntax) (left after : Option NodeNo) (node : NodeNo) → left ≡ Some node → after ≡ None
    → node_parts code (option_to_list left) ≡ node_part (node_of code node.0) ∷ node_parts code (option_to_list after)
generics-taken code left after node left_is none =
    ap (λ o. node_parts code (option_to_list o)) left_is ∙ ap (λ nodes. node_part (node_of code node.0) ∷ nodes) (sym (generics-none code after none))

-- ** Arguments.

pub arguments-start : (inner : Binder) (pattern code lent : Syntax) (n : ℕ) (method : MethodNodes) (ps cs : List NodeNo) (old : Recorded) → lent ≡ pattern
    → nodes_at lent ps ≡ child_nodes (node_of lent n) → nodes_at code cs ≡ arguments_at code method
    → PairedSoFar inner (arguments_by inner (child_nodes (node_of pattern n)) (arguments_at code method)) (node_parts pattern ps) (node_parts code cs) old old
arguments-start inner pattern code lent n method ps cs old lent_is ps_are cs_are =
    paired-starts inner (arguments_by inner (child_nodes (node_of pattern n)) (arguments_at code method)) (node_parts pattern ps) (node_parts code cs)
    (map node_part (child_nodes (node_of pattern n))) (map node_part (arguments_at code method)) old refl
    (ap (map node_part) (subst (λ s. nodes_at s ps ≡ child_nodes (node_of s n)) lent_is ps_are)) (ap (map node_part) cs_are)

pub nodes-next : (tree : Syntax) (left behind : List NodeNo) (node : NodeNo) → left ≡ node ∷ behind
    → node_parts tree left ≡ node_part (node_of tree node.0) ∷ node_parts tree behind
nodes-next tree left behind node steps = ap (node_parts tree) steps

module _ (inner : Binder) (whole : Option (List Binding)) (before beside : List Part) (old out : Recorded)
    (so_far : PairedSoFar inner whole before beside old out) (none : before ≡ []) (code : Syntax) where
  -- the pattern has nothing more
  pub nodes-end : (came : Option NodeNo) (left behind : List NodeNo) (b : Bool) → beside ≡ node_parts code left → YieldsFirst (λ left. left) left came behind
      → is_some came ≡ not b → Answers whole old out b
  nodes-end None left behind b left_is steps b_is =
      both-end inner whole before beside old out so_far none b (left_is ∙ ap (node_parts code) steps.0) b_is
  nodes-end (Some node) left behind b left_is steps b_is =
      one-left inner whole before beside old out so_far none (node_part (node_of code node.0)) (node_parts code behind) b
      (left_is ∙ nodes-next code left behind node steps) b_is

  pub generics-end : (left : Option NodeNo) (b : Bool) → beside ≡ node_parts code (option_to_list left) → is_some left ≡ not b → Answers whole old out b
  generics-end None b left_is b_is = both-end inner whole before beside old out so_far none b left_is b_is
  generics-end (Some node) b left_is b_is =
      one-left inner whole before beside old out so_far none (node_part (node_of code node.0)) [] b left_is b_is

-- ** Both.

-- as many parts pair with as many, and those behind them with one another
pairs_behind : (inner : Binder) (ps more_ps cs more_cs : List Part) → length ps ≡ length cs
    → pairs_by inner (ps ++ more_ps) (cs ++ more_cs) ≡ joined (pairs_by inner ps cs) (pairs_by inner more_ps more_cs)
pairs_behind inner [] more_ps [] more_cs same = sym (joined-none (pairs_by inner more_ps more_cs))
pairs_behind inner [] more_ps (c ∷ cs) more_cs same = cc
pairs_behind inner (p ∷ ps) more_ps [] more_cs same = cc
pairs_behind inner (p ∷ ps) more_ps (c ∷ cs) more_cs same =
    ap (joined (pair_by inner p c)) (pairs_behind inner ps more_ps cs more_cs (let e : length ps ≡ length cs = cc in e))
    ∙ sym (joined_assoc (pair_by inner p c) (pairs_by inner ps cs) (pairs_by inner more_ps more_cs))

-- what is held comes behind what was bound before
kept_behind : (receiver : Receiver) (old : Recorded) (gs bs : List Binding)
    → recorded_with receiver old (recorded (recorded (emptied old) gs) bs) ≡ recorded old (map (received receiver) (gs ++ bs))
kept_behind receiver None gs bs = refl
kept_behind receiver (Some before) gs bs = refl

module _ (inner : Binder) (called : PathCall) (method : Method) (receiver : Receiver) (o : Option Sides) (o_is : alike_pairs called method receiver ≡ o) where
  abbrev generics : Option (List Binding)
  generics = generics_by inner called.path method.generics

  abbrev arguments : Option (List Binding)
  arguments = arguments_by inner called.arguments (method.receiver ∷ method.arguments)

  in_two : option_and_then (sides_by inner) o ≡ option_map (kept (Some receiver)) (joined generics arguments)
  in_two = ap (option_and_then (sides_by inner)) (sym o_is) ∙ by (length ps == length method.generics) refl
    where
      ps : List Part
      ps = bare (arguments_of called.path)

      by : (b : Bool) → (length ps == length method.generics) ≡ b
          → option_and_then (sides_by inner) (cond b (Some (method_pairs called method receiver)) None)
          ≡ option_map (kept (Some receiver)) (joined generics arguments)
      by true same =
          ap (λ cs. option_map (kept (Some receiver)) (pairs_by inner (ps ++ map node_part called.arguments) cs))
          (map-append node_part method.generics (method.receiver ∷ method.arguments))
          ∙ ap (option_map (kept (Some receiver)))
          (pairs_behind inner ps (map node_part called.arguments) (map node_part method.generics) (map node_part (method.receiver ∷ method.arguments))
          (eqb-true (length ps) (length method.generics) same ∙ sym (length-map method.generics node_part)))
      by false differ =
          ap (λ o. option_map (kept (Some receiver)) (joined o arguments))
          (sym
          (unequal inner ps (map node_part method.generics)
          (λ same. let e : true ≡ false = sym (eq-eqb (length ps) (length method.generics) (same ∙ length-map method.generics node_part)) ∙ differ in cc)))

  pub generics-differ : (old start held : Recorded) (b : Bool) → Answers generics start held b → b ≡ false
      → Answers (option_and_then (sides_by inner) o) old old false
  generics-differ old start held b answers failed =
      other refl (in_two ∙ ap (λ o. option_map (kept (Some receiver)) (joined o arguments)) (unmatched generics start held b failed answers))

  pub arguments-differ : (old start held : Recorded) (b : Bool) → Answers arguments start held b → b ≡ false
      → Answers (option_and_then (sides_by inner) o) old old false
  arguments-differ old start held b answers failed =
      other refl
      (in_two
      ∙ ap (λ o. option_map (kept (Some receiver)) (joined generics o)) (unmatched arguments start held b failed answers)
      ∙ ap (option_map (kept (Some receiver))) (lacking generics))

  -- what is held is kept
  pub both-match : (old new start held all : Recorded) (b d : Bool) → start ≡ emptied old → Answers generics start held b → b ≡ true
      → Answers arguments held all d → d ≡ true → new ≡ recorded_with receiver old all
      → Answers (option_and_then (sides_by inner) o) old new true
  both-match old new start held all b d start_is (matched gs is found held_is) generics_matched (matched bs is_too found_too all_is) arguments_matched new_is =
      matched (map (received receiver) (gs ++ bs)) refl
      (in_two ∙ ap (λ o. option_map (kept (Some receiver)) (joined o arguments)) found
      ∙ ap (λ o. option_map (kept (Some receiver)) (joined (Some gs) o)) found_too)
      (new_is ∙ ap (recorded_with receiver old) (all_is ∙ ap (λ held. recorded held bs) (held_is ∙ ap (λ start. recorded start gs) start_is)) ∙ kept_behind receiver old gs bs)
  both-match old new start held all b d start_is (matched gs is found held_is) generics_matched (other is_too lacks) arguments_matched new_is =
      let e : true ≡ false = sym arguments_matched ∙ is_too in cc
  both-match old new start held all b d start_is (other is lacks) generics_matched answers arguments_matched new_is = let e : true ≡ false = sym generics_matched ∙ is in cc
