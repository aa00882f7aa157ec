-- Blocks are replaced wherever they stand.
use Rattle.std.proofs.Common.{◌≡◌, true, List, [], refl, sym, ap, subst, ◌∙◌}
use Rattle.std.proofs.lemmas.List.{append-nil}
use Rattle.ssr_syntax_kinds.specs.declared.reach.Reach.{Reach}
use Rattle.ssr_syntax_kinds.specs.declared.kinds.SyntaxKind.TheVariants as k
use Rattle.ssr_syntax_forms.specs.Forms.{Condition, holds}
use Rattle.ssr_syntax_forms.specs.declared.tokens.Token.{Token}
use Rattle.ssr_syntax_forms.specs.Fitting.{Fits}
use Rattle.ssr_syntax_forms.specs.Trees.{Forest, done, spell}
use Rattle.ssr_syntax_types.specs.declared.goals.Goal.{Goal}
use Rattle.ssr_syntax_types.specs.declared.goals.Goal.TheVariants.{StmtList}
use Rattle.ssr_syntax.specs.Grammar.{grammar_of}
use Rattle.ssr_syntax_places.specs.Delimited.{are_whole}
use Rattle.ssr_syntax_places.specs.Placing.{begins_open, blocks, is_asked, keeps_opens, Puts, no_tree, put}
use Rattle.ssr_syntax_places.specs.Standing.{node}
use Rattle.ssr_syntax_places.proofs.Alike.{both_end}
use Rattle.ssr_syntax_places.proofs.Delimited.{block_anywhere, blocks_owned}
use Rattle.ssr_syntax_places.proofs.Delimiters.{whole_opens}
use Rattle.ssr_syntax_places.proofs.Placed.{made_anew}

pub blocks_replaced : (reach : Reach) (asked : Goal) (z w : Forest) (us : List Token) → are_whole us ≡ true
    → Fits (grammar_of reach) (grammar_of reach asked) done z us [] → Puts (grammar_of reach) blocks z w
    → Fits (grammar_of reach) (grammar_of reach asked) done w (spell w) []
blocks_replaced reach asked z w us whole f p =
    made_anew (grammar_of reach) blocks (blocks_owned reach) asked z w us [] [] (ap keeps_opens (append-nil us) ∙ whole_opens us whole) both_end f p

only_lists : (asked : Goal) → blocks.owns asked ≡ true → asked ≡ StmtList
only_lists StmtList is = refl
only_lists _ is = absurd (cc)

-- statements in braces that fit alone may stand in the place of others
pub block_put : (reach : Reach) (old new : Forest) → begins_open (spell old) ≡ true → begins_open (spell new) ≡ true
    → ((condition : Condition) → is_asked condition ≡ true → holds condition (spell old) ≡ true → holds condition (spell new) ≡ true)
    → are_whole (spell new) ≡ true → Fits (grammar_of reach) (grammar_of reach StmtList) done (node k.STMT_LIST new) (spell new) []
    → Puts (grammar_of reach) blocks (node k.STMT_LIST old) (node k.STMT_LIST new)
block_put reach old new old_open new_open meets whole fits =
    put refl old_open new_open meets
    (λ asked rest mine. subst (λ goal. Fits (grammar_of reach) (grammar_of reach goal) done (node k.STMT_LIST new) (spell new) rest)
    (sym (only_lists asked mine)) (block_anywhere reach (node k.STMT_LIST new) (spell new) [] rest whole fits))
    no_tree
