-- What the program keeps of an expression until its context is known.
--     term_value t c       what a term gives in the context c
--     worth_of a           what an operand is by itself
--     GivesWorth, Gives    what a call answers: the value or the fault of a definition, or want of memory
use Rattle.std.specs.Prelude.{◌≡◌, ◌⊎◌, ℕ, if◌then◌else◌, Result, Ok, Err}
use Rattle.vlog_const.specs.declared.shape.Shape.{Shape}
use Rattle.vlog_const.specs.declared.answer.ConstFault.{ConstFault}
use Rattle.vlog_const.specs.declared.answer.ConstFault.TheVariants.{Memory}
use Rattle.vlog_const.specs.declared.term.Term.{Term, fold-Term}
use Rattle.vlog_const.specs.declared.term.Term.TheOpen.{Term-F}
use Rattle.vlog_const.specs.declared.operand.Operand.{Operand}
use Rattle.vlog_const.specs.Words.{extended, sized, shifted}
use Rattle.vlog_const.specs.Worths.{Or_fault, ◌>>=◌, Worth}
use Rattle.vlog_const.specs.Operations.{divided}

-- in a context, from its parts
unfoldable pub term_by_parts : Term-F (Shape → Or_fault ℕ) → Shape → Or_fault ℕ
term_by_parts (Term-F.Known width bits) c = Ok (extended width c bits)
term_by_parts (Term-F.Unary op a) c = a c >>= (λ x. Ok (sized op c.width x))
term_by_parts (Term-F.Binary op place a b) c = a c >>= (λ x. b c >>= (λ y. divided op place c x y))
term_by_parts (Term-F.Shift op a n) c = a c >>= (λ x. Ok (shifted op c x n))
term_by_parts (Term-F.Choice first a b) c = a c >>= (λ x. b c >>= (λ y. Ok (if first then x else y)))

unfoldable pub term_value : Term → Shape → Or_fault ℕ
term_value = fold-Term (Shape → Or_fault ℕ) term_by_parts

abbrev pub worth_of : Operand → Worth
worth_of a = record { place = a.place; shape = a.shape; value = term_value a.term }

-- what is answered is what a definition says, or want of memory
abbrev pub Answers : {A B : Type 0} → (A → B) → Result A ConstFault → Or_fault B → Type 0
Answers view (Ok a) r = r ≡ Ok (view a)
Answers view (Err fault) r = (fault ≡ Memory) ⊎ (r ≡ Err fault)
