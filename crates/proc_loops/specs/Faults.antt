-- What an unrolling answers.
--     Or_fault A, and_then     a value, or why there is none
--     constant r               what a constant expression gives
--     Answers                  what a call answers: the value or the fault of a definition, or want of memory
use Rattle.std.specs.Prelude.{◌≡◌, ◌⊎◌, Result, Ok, Err}
use Rattle.vlog_const.specs.Worths as worths
use Rattle.proc_loops.specs.declared.fault.LoopFault.{LoopFault}
use Rattle.proc_loops.specs.declared.fault.LoopFault.TheVariants.{Memory, Const}

-- a value, or why there is none
abbrev pub Or_fault : Type 0 → Type 0
Or_fault A = Result A LoopFault

-- the first part's fault, or what follows from its value
unfoldable pub and_then : {A B : Type 0} → Or_fault A → (A → Or_fault B) → Or_fault B
and_then (Ok a) f = f a
and_then (Err fault) f = Err fault

infixl 10 ◌>>=◌
-- the same, for blocks of steps
abbrev pub ◌>>=◌ : {A B : Type 0} → Or_fault A → (A → Or_fault B) → Or_fault B
r >>= f = and_then r f

-- what a constant expression gives
unfoldable pub constant : {A : Type 0} → worths.Or_fault A → Or_fault A
constant (Ok a) = Ok a
constant (Err fault) = Err (Const fault)

-- what is answered is what a definition says, or want of memory
abbrev pub Answers : {A : Type 0} → Result A LoopFault → Or_fault A → Type 0
Answers (Ok a) r = r ≡ Ok a
Answers (Err fault) r = (fault ≡ Memory) ⊎ (r ≡ Err fault)
