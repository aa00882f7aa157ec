-- What is read again decides whether a tree fits.
use Rattle.std.proofs.Common.{◌≡◌, ◌≢◌, ◌↔◌, ◌≤◌, Bool, IsTrue, Ok, Err, IfOk, ap, arith}
use Rattle.std.specs.Prelude.{Result}
use Rattle.ssr_syntax_tree.specs.Syntax.{Syntax, depth_of, most_deep}
use Rattle.ssr_syntax.specs.declared.syntax_error.SyntaxError.{SyntaxError}
use Rattle.ssr_syntax.specs.declared.syntax_error.SyntaxError.TheVariants as errors
use Rattle.ssr_syntax.specs.Reading.{IsThatOrTooDeep}

-- what fits and isn't too deep is read
pub fitting_read : (read : Result Syntax SyntaxError) (tree : Syntax) → read ≢ Err errors.Memory → depth_of tree ≤ most_deep
    → IsThatOrTooDeep (λ tree. tree) tree read → read ≡ Ok tree
fitting_read (Ok other) tree told shallow that = ap Ok that
fitting_read (Err error) tree told shallow that =
    absurd (let deep = (that (λ memory. told (ap Err memory))).1 in omega (arith, deep, shallow))

pub decided : {E : Type 0} (read : Result Syntax SyntaxError) (tree : Syntax) (P : Type 0) (answer : Result Bool E)
    → IfOk answer (λ same. (IsTrue same ↔ (read ≡ Ok tree)) × (read ≢ Err errors.Memory))
    → (read ≡ Ok tree → P) → (P → IsThatOrTooDeep (λ tree. tree) tree read) → (P → depth_of tree ≤ most_deep)
    → IfOk answer (λ fits. IsTrue fits ↔ P)
decided read tree P (Ok same) is sound complete shallow =
    (λ fits. sound (is.0.0 fits), λ p. is.0.1 (fitting_read read tree is.1 (shallow p) (complete p)))
decided read tree P (Err error) is sound complete shallow = tt
