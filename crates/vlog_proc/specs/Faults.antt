-- What the reading of a process answers: a value, or why there is none.
--     Or_fault A, and_then           a value, or why there is none
--     all_checked f xs               each of some, or the first fault
--     Answers view result r          what a call answers: that value or that fault, or want of memory
use Rattle.std.specs.Prelude.{◌≡◌, ◌⊎◌, List, [], ◌∷◌, Result, Ok, Err}
use Rattle.proc_loops.specs.declared.fault.LoopFault.{LoopFault}
use Rattle.proc_loops.specs.declared.fault.LoopFault.TheVariants as loop
use Rattle.vlog_proc.specs.declared.fault.ProcFault.{ProcFault}
use Rattle.vlog_proc.specs.declared.fault.ProcFault.TheVariants.{Memory, Const, NotBuilt}

-- a value, or why there is none
abbrev pub Or_fault : Type 0 → Type 0
Or_fault A = Result A ProcFault

-- the first part's fault, or what follows from its value
unfoldable pub and_then : {A B : Type 0} → Or_fault A → (A → Or_fault B) → Or_fault B
and_then (Ok a) f = f a
and_then (Err fault) f = Err fault

infixl 10 ◌>>=◌
-- the same, for blocks of steps
abbrev pub ◌>>=◌ : {A B : Type 0} → Or_fault A → (A → Or_fault B) → Or_fault B
r >>= f = and_then r f

-- each of some, or the first fault
unfoldable pub all_checked : {A : Type 0} → (A → Or_fault (Unit {0})) → List A → Or_fault (Unit {0})
all_checked f [] = Ok tt
all_checked f (x ∷ xs) = and_then (f x) (λ u. all_checked f xs)

-- why a body has none without loops
unfoldable pub fault_of : LoopFault → ProcFault
fault_of loop.Memory = Memory
fault_of (loop.Const cause) = Const cause
fault_of (loop.NotBuilt place) = NotBuilt place

-- what is answered is what a definition says, or want of memory
abbrev pub Answers : {A B : Type 0} → (A → B) → Result A ProcFault → Or_fault B → Type 0
Answers view (Ok a) r = r ≡ Ok (view a)
Answers view (Err fault) r = (fault ≡ Memory) ⊎ (r ≡ Err fault)
