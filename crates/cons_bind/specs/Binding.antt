-- The lines of a file in a net: all bound, or the first that has a fault.
--     forms_of bound                          the forms of bound lines
--     Stands net lines before form it         the line is bound, and free of faults
--     AreBound net lines before some bound    each line is
--     LineFails net lines before form cause   the line has the fault
--     StopsAt net lines cause n               line n is the first that has a fault
--     Binds net lines answer                  what each answer means
use Rattle.std.specs.Prelude.{◌≡◌, ℕ, List, [], ◌∷◌, ◌++◌, map, Result, Ok, Err}
use Rattle.cons_file.specs.File.{Stated}
use Rattle.cons_file.specs.Forms.{Form}
use Rattle.cons_bind.specs.Names.{Net}
use Rattle.cons_bind.specs.Meaning.{IsBound, HasCause}
use Rattle.cons_bind.specs.Claims.{IsTwice, IsPastLimit, ReadsClock}
use Rattle.cons_bind.specs.declared.cause.Cause.{Cause}
use Rattle.cons_bind.specs.declared.cause.Cause.TheVariants as causes
use Rattle.cons_bind.specs.declared.bound.BoundForm.{BoundForm}
use Rattle.cons_bind.specs.declared.bound.BoundLine.{BoundLine}
use Rattle.cons_bind.specs.declared.bound.Bound.{Bound}
use Rattle.cons_bind.specs.declared.fault.BindFault.{BindFault}
use Rattle.cons_bind.specs.declared.fault.BindFault.TheVariants.{Memory, NoName, NotOneBit, NotAnInput, NotAFlop, NotAReset, NotAClock, ClockRead, Twice, TrackLimit}

-- the forms of bound lines
abbrev pub forms_of : List BoundLine → List BoundForm
forms_of bound = map (λ (line : BoundLine). line.form) bound

-- the line is bound to this form, and may stand behind those before it; `lines` are all lines of the file
pub record Stands (net : Net) (lines : List Stated) (before : List BoundLine) (form : Form) (it : BoundForm) : Type 0 where
  pub bound : IsBound net lines form it
  pub unread : ReadsClock net it → ⊥
  pub once : IsTwice (forms_of before) it → ⊥
  pub few : IsPastLimit (forms_of before) it → ⊥

-- some lines, behind bound ones, are each bound
abbrev pub AreBound : Net → List Stated → List BoundLine → List Stated → List BoundLine → Type 0
AreBound net lines before [] [] = Unit {0}
AreBound net lines before [] (it ∷ bound) = ⊥
AreBound net lines before (line ∷ some) [] = ⊥
AreBound net lines before (line ∷ some) (it ∷ bound) =
    (it.number ≡ line.number) × Stands net lines before line.form it.form × AreBound net lines (before ++ (it ∷ [])) some bound

-- the fault of a line: of its names from the left, then a clock that is read, then a claim made twice, then the limit
abbrev pub LineFails : Net → List Stated → List BoundLine → Form → Cause → Type 0
LineFails net lines before form causes.ClockRead = (it : BoundForm) × IsBound net lines form it × ReadsClock net it
LineFails net lines before form causes.Twice =
    (it : BoundForm) × IsBound net lines form it × (ReadsClock net it → ⊥) × IsTwice (forms_of before) it
LineFails net lines before form causes.TrackLimit =
    (it : BoundForm) × IsBound net lines form it × (ReadsClock net it → ⊥) × (IsTwice (forms_of before) it → ⊥) × IsPastLimit (forms_of before) it
LineFails net lines before form cause = HasCause net lines form cause

-- line n has the fault, and the lines before it are bound
pub record StopsAt (net : Net) (lines : List Stated) (cause : Cause) (n : ℕ) : Type 0 where
  pub front : List Stated
  pub bad : Stated
  pub back : List Stated
  pub parts : lines ≡ front ++ (bad ∷ back)
  pub before : List BoundLine
  pub bound : AreBound net lines [] front before
  pub fails : LineFails net lines before bad.form cause
  pub number : bad.number ≡ n

-- what is answered of the lines
abbrev pub Binds : Net → List Stated → Result Bound BindFault → Type 0
Binds net lines (Ok bound) = AreBound net lines [] lines bound.lines
Binds net lines (Err Memory) = Unit {0}
Binds net lines (Err (NoName n)) = StopsAt net lines causes.NoName n
Binds net lines (Err (NotOneBit n)) = StopsAt net lines causes.NotOneBit n
Binds net lines (Err (NotAnInput n)) = StopsAt net lines causes.NotAnInput n
Binds net lines (Err (NotAFlop n)) = StopsAt net lines causes.NotAFlop n
Binds net lines (Err (NotAReset n)) = StopsAt net lines causes.NotAReset n
Binds net lines (Err (NotAClock n)) = StopsAt net lines causes.NotAClock n
Binds net lines (Err (ClockRead n)) = StopsAt net lines causes.ClockRead n
Binds net lines (Err (Twice n)) = StopsAt net lines causes.Twice n
Binds net lines (Err (TrackLimit n)) = StopsAt net lines causes.TrackLimit n
