use Rattle.std.proofs.Common.{List, refl, subst, sym, ap, ◌∙◌}
use Rattle.ssr_syntax_tree.specs.Places.{node_of}
use Rattle.ssr_macro_arguments.specs.declared.arguments.ArgumentToken.{ArgumentToken}
use Rattle.ssr_macro_arguments.specs.Calls.{tree_of}
use Rattle.ssr_macro_arguments.specs.Forms.{expansion_of}
use Rattle.ssr_macro_arguments.specs.Private.Tokens.{AreSpelledArguments}
use Rattle.ssr_macro_arguments.proofs.Tops.{read_tree}
use Rattle.ssr_macro_arguments.proofs.Spelled.{handed_in_spelled, searched_spelled}
use Rattle.ssr_macro_arguments.proofs.expanding.made_of.Goals as goal

pub returns-clause-made : goal.returns-clause-made
returns-clause-made c = λ place text call arguments all.
    let form = c.args.call.form in
    let ts = c.args.arguments.items in
    record {
      expansion = record {
        call = refl;
        expression = refl;
        spells =
            handed_in_spelled text form c.as_slice.result.now _ c.in_ok-tokens.ensures
            (subst (AreSpelledArguments text) (sym (c.as_slice.ensures.value ∙ c.searched-values.ensures)) (searched_spelled text form ts all));
      };
      call = record {
        brackets = node_of (tree_of place) c.args.call.brackets.0;
        call = call;
        arguments = ts;
        all = arguments;
        form = form;
        tokens =
            c.in_ok-tokens.ensures
            ∙ ap (λ (tokens : List ArgumentToken). expansion_of form tokens) (c.as_slice.ensures.value ∙ c.searched-values.ensures);
      };
      read = read_tree _ _ _ c.in-Some.read c.in-Some.is c.as_slice-handed_in.ensures.value c.in_ok-read.ensures.read;
    }

pub returns-clause-tokens : goal.returns-clause-tokens
returns-clause-tokens c =
    c.in_ok-tokens.ensures
    ∙ ap (λ (ts : List ArgumentToken). expansion_of c.args.call.form ts) (c.as_slice.ensures.value ∙ c.searched-values.ensures)
