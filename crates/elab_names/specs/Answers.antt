-- What a step of elaboration answers: a value, or the fault that comes first in the order of reading.
--     Or_fault A, and_then           a value, or why there is none
--     gathered rs, optional r        what all parts answer, and what a part that may be absent does
--     fault_of f, lifted r           a fault of a constant expression, and an answer of one
--     Answers view result r          what a call answers: that value or that fault, or want of memory
use Rattle.std.specs.Prelude.{◌≡◌, ◌⊎◌, List, [], ◌∷◌, Option, Some, None, Result, Ok, Err}
use Rattle.vlog_const.specs.declared.answer.ConstFault.{ConstFault}
use Rattle.vlog_const.specs.declared.answer.ConstFault.TheVariants as const
use Rattle.elab_names.specs.declared.fault.ElabFault.{ElabFault}
use Rattle.elab_names.specs.declared.fault.ElabFault.TheVariants.{Memory, Const}

-- a value, or why there is none
abbrev pub Or_fault : Type 0 → Type 0
Or_fault A = Result A ElabFault

-- the first part's fault, or what follows from its value
unfoldable pub and_then : {A B : Type 0} → Or_fault A → (A → Or_fault B) → Or_fault B
and_then (Ok a) f = f a
and_then (Err fault) f = Err fault

infixl 10 ◌>>=◌
-- the same, for blocks of steps
abbrev pub ◌>>=◌ : {A B : Type 0} → Or_fault A → (A → Or_fault B) → Or_fault B
r >>= f = and_then r f

-- all values, or the fault of the first that has none
unfoldable pub gathered : {A : Type 0} → List (Or_fault A) → Or_fault (List A)
gathered [] = Ok []
gathered (r ∷ rs) = do
  a ← r
  rest ← gathered rs
  Ok (a ∷ rest)

-- of a part that may be absent
unfoldable pub optional : {A : Type 0} → Option (Or_fault A) → Or_fault (Option A)
optional None = Ok None
optional (Some r) = do
  a ← r
  Ok (Some a)

-- why a constant expression has no value
unfoldable pub fault_of : ConstFault → ElabFault
fault_of const.Memory = Memory
fault_of fault = Const fault

-- the value of a constant expression, or why there is none
unfoldable pub lifted : {A : Type 0} → Result A ConstFault → Or_fault A
lifted (Ok a) = Ok a
lifted (Err fault) = Err (fault_of fault)

-- what is answered is what a definition says, or want of memory
abbrev pub Answers : {A B : Type 0} → (A → B) → Result A ElabFault → Or_fault B → Type 0
Answers view (Ok a) r = r ≡ Ok (view a)
Answers view (Err fault) r = (fault ≡ Memory) ⊎ (r ≡ Err fault)
