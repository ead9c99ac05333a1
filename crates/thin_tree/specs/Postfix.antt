-- An expression as a list of steps, each behind what it works on.
--     step_of step          a step, without where its name lies in memory
--     postfix e             the steps of an expression
--     expression_of steps   the expression of such a list
--     IsPostfix steps       the list is the steps of its expression
--     Pushes there before after e     the steps of the expression that is there join those before
use Rattle.std.specs.Prelude.{◌≡◌, ℕ, Bool, true, false, List, [], ◌∷◌, ◌++◌, Option, Some, None}
use Rattle.thin_tree.specs.Tree.{Expr, Name, Brackets, Not, And, Or}
use Rattle.thin_tree.specs.declared.steps.Step as lent
use Rattle.thin_tree.specs.declared.steps.Step.TheVariants as lent_step

-- a name, or what is done to the one or two values before it
pub data Step : Type 0 where
  name : List ℕ → Step
  brackets : Step
  negation : Step
  both : Step
  either : Step

-- a step, without where its name lies in memory
abbrev pub step_of : lent.Step → Step
step_of (lent_step.Name n) = name n.now
step_of lent_step.Brackets = brackets
step_of lent_step.Not = negation
step_of lent_step.And = both
step_of lent_step.Or = either

-- the steps of an expression
abbrev pub postfix : Expr → List Step
postfix (Name n) = name n ∷ []
postfix (Brackets e) = postfix e ++ brackets ∷ []
postfix (Not e) = postfix e ++ negation ∷ []
postfix (And a b) = postfix a ++ (postfix b ++ both ∷ [])
postfix (Or a b) = postfix a ++ (postfix b ++ either ∷ [])

-- the expressions that one step makes of those before it, the last in front
abbrev pub stepped : Step → List Expr → List Expr
stepped (name n) es = Name n ∷ es
stepped brackets [] = []
stepped brackets (e ∷ es) = Brackets e ∷ es
stepped negation [] = []
stepped negation (e ∷ es) = Not e ∷ es
stepped both [] = []
stepped both (b ∷ []) = []
stepped both (b ∷ a ∷ es) = And a b ∷ es
stepped either [] = []
stepped either (b ∷ []) = []
stepped either (b ∷ a ∷ es) = Or a b ∷ es

-- the expressions that steps make of those before them
abbrev pub stepped_all : List Step → List Expr → List Expr
stepped_all [] es = es
stepped_all (s ∷ ss) es = stepped_all ss (stepped s es)

-- the last of these, or an empty name
abbrev pub last_of : List Expr → Expr
last_of [] = Name []
last_of (e ∷ es) = e

-- the expression of a list of steps
abbrev pub expression_of : List Step → Expr
expression_of steps = last_of (stepped_all steps [])

-- the list is the steps of its expression
abbrev pub IsPostfix : List Step → Type 0
IsPostfix steps = steps ≡ postfix (expression_of steps)

-- the steps of the expression that is there join those before
abbrev pub Pushes : Bool → List Step → List Step → Option Expr → Type 0
Pushes there before after None = there ≡ false
Pushes there before after (Some e) = (there ≡ true) × (after ≡ before ++ postfix e)
