use Rattle.std.proofs.Common.{◌≡◌, List, ℕ, ◌++◌, subst, rules, codes, IfOk, string_bytes}
use Rattle.ssr_reports.specs.Places.{first_line, place_words}
use Rattle.ssr_reports.proofs.places.place_line.Goals as goal

pub returns : goal.returns
returns c =
    let place = place_words c.args.file.now c.args.place in
    let parts = c.first_line.result in
    let written : IfOk c.format.result (λ line. string_bytes line ≡ place ++ (codes ": " ++ (parts.0.now ++ (parts.1.now ++ codes "\n")))) = search rules in
    subst (λ (mark : List ℕ). IfOk c.format.result (λ line. string_bytes line ≡ place ++ (codes ": " ++ (first_line c.args.found.now ++ (mark ++ codes "\n")))))
    c.first_line.ensures.mark
    (subst (λ (first : List ℕ). IfOk c.format.result (λ line. string_bytes line ≡ place ++ (codes ": " ++ (first ++ (parts.1.now ++ codes "\n")))))
    c.first_line.ensures.first written)
