-- Steps that are taken one after another, up to the first fault.
--     threaded step s xs       what is so after a step for each
--     chained steps s          the same of steps that stand ready
--     Stops fault r            a fault that is answered: a definition's, or want of memory
use Rattle.std.specs.Prelude.{◌≡◌, ◌⊎◌, List, [], ◌∷◌, Ok, Err}
use Rattle.elab_names.specs.declared.fault.ElabFault.{ElabFault}
use Rattle.elab_names.specs.declared.fault.ElabFault.TheVariants.{Memory}
use Rattle.elab_names.specs.Answers.{Or_fault, and_then}

-- what is so after a step for each
unfoldable pub threaded : {S X : Type 0} → (S → X → Or_fault S) → S → List X → Or_fault S
threaded step s [] = Ok s
threaded step s (x ∷ xs) = and_then (step s x) (λ t. threaded step t xs)

-- the same of steps that stand ready
unfoldable pub chained : {S : Type 0} → List (S → Or_fault S) → S → Or_fault S
chained [] s = Ok s
chained (step ∷ steps) s = and_then (step s) (chained steps)

-- a fault that is answered: a definition's, or want of memory
abbrev pub Stops : {S : Type 0} → ElabFault → Or_fault S → Type 0
Stops fault r = (fault ≡ Memory) ⊎ (r ≡ Err fault)
