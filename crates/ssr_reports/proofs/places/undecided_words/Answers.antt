use Rattle.std.proofs.Common.{◌≡◌, List, ℕ, ◌++◌, subst, rules, codes, IfOk, string_bytes}
use Rattle.ssr_reports.specs.Places.{first_line}
use Rattle.ssr_reports.proofs.places.undecided_words.Goals as goal

pub returns : goal.returns
returns c =
    let place = c.args.place.now in
    let name = c.args.name.now in
    let parts = c.first_line.result in
    let written : IfOk c.format.result (λ line. string_bytes line ≡ place ++ (codes ": undecided by `" ++ (name ++ (codes "`: " ++ (parts.0.now ++ parts.1.now))))) = search rules in
    subst (λ (mark : List ℕ). IfOk c.format.result (λ line. string_bytes line ≡ place ++ (codes ": undecided by `" ++ (name ++ (codes "`: " ++ (first_line c.args.found.now ++ mark))))))
    c.first_line.ensures.mark
    (subst (λ (first : List ℕ). IfOk c.format.result (λ line. string_bytes line ≡ place ++ (codes ": undecided by `" ++ (name ++ (codes "`: " ++ (first ++ parts.1.now))))))
    c.first_line.ensures.first written)
