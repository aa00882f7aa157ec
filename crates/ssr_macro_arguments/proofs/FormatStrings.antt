-- Arguments without their format string, place by place.
use Rattle.std.proofs.Common.{◌≡◌, ℕ, suc, ◌+◌, ◌-◌, ◌≤◌, List, ◌++◌, length, take, drop, ap, sym, ◌∙◌, arith, append_assoc, take-add, take_at, drop_at, drop-drop, length-take-le}
use Rattle.std.proofs.lemmas.List.{take_rest}
use Rattle.ssr_macro_arguments.specs.declared.arguments.ArgumentToken.{ArgumentToken}
use Rattle.ssr_macro_arguments.specs.Forms.{first_length, lone_string_length, without_string}

-- one argument more stands in front of the place
pub argument_more : (ts whole : List ArgumentToken) (place first next left : ℕ) → first ≡ first_length (drop place ts) → next ≡ place + first
    → take place ts ++ without_string (suc left) (drop place ts) ≡ whole → take next ts ++ without_string left (drop next ts) ≡ whole
argument_more ts whole place first next left is more so_far =
    let rest = drop place ts in
    let there : take next ts ++ without_string left (drop next ts) ≡ take (place + first) ts ++ without_string left (drop (place + first) ts) =
    ap (λ n. take n ts ++ without_string left (drop n ts)) more in
    let parts : take (place + first) ts ++ without_string left (drop (place + first) ts) ≡ (take place ts ++ take first rest) ++ without_string left (drop first rest) =
    ap (λ (l : List ArgumentToken). l ++ without_string left (drop (place + first) ts)) (take-add place first ts)
    ∙ ap (λ (l : List ArgumentToken). (take place ts ++ take first rest) ++ without_string left l) (sym (drop-drop first place ts)) in
    there ∙ parts ∙ append_assoc (take place ts) (take first rest) (without_string left (drop first rest))
    ∙ ap (λ n. take place ts ++ (take n rest ++ without_string left (drop n rest))) is ∙ so_far

-- one token more is left out behind the place
pub token_less : (ts left later : List ArgumentToken) (place count : ℕ) → place ≤ length ts → left ≡ take place ts ++ drop (place + count) ts
    → later ≡ take place left ++ drop (place + 1) left → later ≡ take place ts ++ drop (place + (count + 1)) ts
token_less ts left later place count within is less =
    let front = take place ts in
    let back = drop (place + count) ts in
    let at : length front ≡ place = length-take-le place ts within in
    less
    ∙ ap (λ (l : List ArgumentToken). take place l ++ drop (place + 1) l) is
    ∙ ap (λ (l : List ArgumentToken). l ++ drop (place + 1) (front ++ back)) (take_at front back place at)
    ∙ ap (λ (l : List ArgumentToken). front ++ l)
    (sym (drop-drop 1 place (front ++ back)) ∙ ap (drop 1) (drop_at front back place at) ∙ drop-drop 1 (place + count) ts)
    ∙ ap (λ n. front ++ drop n ts) (let same : place + count + 1 ≡ place + (count + 1) = omega arith in same)

-- how many tokens are left out
pub lone_length : (ts now : List ArgumentToken) (place end : ℕ) → now ≡ ts → end ≡ lone_string_length (take (length now - place) (drop place now))
    → end ≡ lone_string_length (drop place ts)
lone_length ts now place end same is =
    is ∙ ap lone_string_length (take_rest now place) ∙ ap (λ (l : List ArgumentToken). lone_string_length (drop place l)) same

-- all of them are
pub string_gone : (ts now left : List ArgumentToken) (before place count end : ℕ) → now ≡ ts
    → take place now ++ without_string 0 (drop place now) ≡ without_string before now → end ≡ lone_string_length (drop place ts) → end ≤ count
    → count ≤ lone_string_length (drop place ts) → left ≡ take place ts ++ drop (place + count) ts → left ≡ without_string before ts
string_gone ts now left before place count end same whole is past within gone =
    let all : count ≡ lone_string_length (drop place ts) = omega (arith, is) in
    gone
    ∙ ap (λ (l : List ArgumentToken). take place ts ++ l) (sym (drop-drop count place ts) ∙ ap (λ n. drop n (drop place ts)) all)
    ∙ ap (λ (l : List ArgumentToken). take place l ++ without_string 0 (drop place l)) (sym same)
    ∙ whole ∙ ap (without_string before) same
