-- The expression of a list of steps, and that the steps that are pushed are those of what is said.
use Rattle.std.proofs.Common.{◌≡◌, ℕ, Bool, true, false, List, [], ◌∷◌, ◌++◌, Option, Some, None, refl, sym, ap, ◌∙◌, append_assoc}
use Rattle.thin_tree.specs.Tree.{Expr, Name, Brackets, Not, And, Or}
use Rattle.thin_tree.specs.Postfix.{Step, name, brackets, negation, both, either, postfix, stepped, stepped_all, last_of, expression_of, IsPostfix, Pushes}

steps_behind : (ss ts : List Step) (es : List Expr) → stepped_all (ss ++ ts) es ≡ stepped_all ts (stepped_all ss es)
steps_behind [] ts es = refl
steps_behind (s ∷ ss) ts es = steps_behind ss ts (stepped s es)

postfix_makes : (e : Expr) (es : List Expr) → stepped_all (postfix e) es ≡ e ∷ es
postfix_makes (Name t) es = refl
postfix_makes (Brackets e) es = steps_behind (postfix e) (brackets ∷ []) es ∙ ap (stepped brackets) (postfix_makes e es)
postfix_makes (Not e) es = steps_behind (postfix e) (negation ∷ []) es ∙ ap (stepped negation) (postfix_makes e es)
postfix_makes (And a b) es = steps_behind (postfix a) (postfix b ++ both ∷ []) es ∙ ap (stepped_all (postfix b ++ both ∷ [])) (postfix_makes a es) ∙ steps_behind (postfix b) (both ∷ []) (a ∷ es) ∙ ap (stepped both) (postfix_makes b (a ∷ es))
postfix_makes (Or a b) es = steps_behind (postfix a) (postfix b ++ either ∷ []) es ∙ ap (stepped_all (postfix b ++ either ∷ [])) (postfix_makes a es) ∙ steps_behind (postfix b) (either ∷ []) (a ∷ es) ∙ ap (stepped either) (postfix_makes b (a ∷ es))

pub expression_is : (e : Expr) → expression_of (postfix e) ≡ e
expression_is e = ap last_of (postfix_makes e [])

pub is_postfix : (e : Expr) (steps : List Step) → steps ≡ postfix e → IsPostfix steps
is_postfix e steps same = same ∙ ap postfix (sym (expression_is e) ∙ ap expression_of (sym same))

-- the pushed steps are those of what is said, where none stood before
pub value_said : (e : Option Expr) (there : Bool) (before steps : List Step) → there ≡ true → before ≡ [] → Pushes there before steps e → Some (expression_of steps) ≡ e
value_said None there before steps so none h = cc
value_said (Some e) there before steps so none h = ap (λ z. Some (expression_of z)) (h.1 ∙ ap (λ z. z ++ postfix e) none) ∙ ap (λ x. Some x) (expression_is e)

pub value_whole : (e : Option Expr) (there : Bool) (before steps : List Step) → there ≡ true → before ≡ [] → Pushes there before steps e → IsPostfix steps
value_whole None there before steps so none h = cc
value_whole (Some e) there before steps so none h = is_postfix e steps (h.1 ∙ ap (λ z. z ++ postfix e) none)
