-- The lines of a constraint file, one form each, and what is answered where it has none.
--     Stated, form_said, stated     what a line states: its number and its form
--     heading                       the words of the first line
--     Spell rows lines              each row is the line beside it
--     IsFile, IsFirstBad, LacksVersion, Reads      what each answer means
--     IsAscending lines             each number is greater than the one before it
use Rattle.std.specs.Prelude.{◌≡◌, ◌≢◌, ℕ, ◌<◌, List, [], ◌∷◌, ◌++◌, map, codes, Result, Ok, Err}
use Rattle.std.specs.declared.vec.Vec.{Vec}
use Rattle.std.specs.declared.alloc.Global.{Global}
use Rattle.cons_file.specs.Lines.{words_in, Row, rows_of}
use Rattle.cons_file.specs.Forms.{Form, Clock, Reset, Tie, Steady, Track, Order, Isolate, Quiet, Waive, Spells}
use Rattle.cons_file.specs.declared.line.Line.{Line}
use Rattle.cons_file.specs.declared.line.LineForm.{LineForm}
use Rattle.cons_file.specs.declared.line.LineForm.TheVariants as lent
use Rattle.cons_file.specs.declared.fault.ConsFault.{ConsFault}
use Rattle.cons_file.specs.declared.fault.ConsFault.TheVariants.{Memory, Version, BadLine}

-- what a line states
pub record Stated : Type 0 where
  pub number : ℕ
  pub form : Form

-- a form without where its names lie
abbrev pub form_said : LineForm → Form
form_said (lent.Clock port) = Clock port.now
form_said (lent.Reset name high) = Reset name.now high
form_said (lent.Tie port one) = Tie port.now one
form_said (lent.Steady port) = Steady port.now
form_said (lent.Track name) = Track name.now
form_said (lent.Order first second) = Order first.now second.now
form_said (lent.Isolate reset bit one) = Isolate reset.now bit.now one
form_said (lent.Quiet reset clock) = Quiet reset.now clock.now
form_said (lent.Waive flop reason) = Waive flop.now reason.now

-- what a line that was read states
abbrev pub stated : Line → Stated
stated line = record { number = line.number; form = form_said line.form }

-- the words of the first line
abbrev pub heading : List (List ℕ)
heading = codes "rdc" ∷ codes "1" ∷ []

-- each row has the number and the form of the line beside it
abbrev pub Spell : List Row → List Stated → Type 0
Spell [] [] = Unit {0}
Spell [] (line ∷ lines) = ⊥
Spell (row ∷ rows) [] = ⊥
Spell (row ∷ rows) (line ∷ lines) = (row.number ≡ line.number) × Spells row.text line.form × Spell rows lines

-- the first row is the heading, and P is true of the others
abbrev pub AfterVersion : List Row → (List Row → Type 0) → Type 0
AfterVersion [] P = ⊥
AfterVersion (head ∷ rows) P = (words_in head.text ≡ heading) × P rows

-- there is no first row, told as line 1, or row n is the first and no heading
abbrev pub LacksVersion : List Row → ℕ → Type 0
LacksVersion [] n = n ≡ 1
LacksVersion (head ∷ rows) n = (words_in head.text ≢ heading) × (head.number ≡ n)

-- row n has no form, and each row before it has one
pub record IsFirstBad (rows : List Row) (n : ℕ) : Type 0 where
  pub front : List Row
  pub bad : Row
  pub back : List Row
  pub parts : rows ≡ front ++ (bad ∷ back)
  pub lines : List Stated
  pub spelled : Spell front lines
  pub formless : (form : Form) → Spells bad.text form → ⊥
  pub number : bad.number ≡ n

-- the bytes are a file of these lines
abbrev pub IsFile : List ℕ → List Stated → Type 0
IsFile bytes lines = AfterVersion (rows_of bytes) (λ rows. Spell rows lines)

-- what is answered of the bytes
abbrev pub Reads : List ℕ → Result (Vec Line Global) ConsFault → Type 0
Reads bytes (Ok lines) = IsFile bytes (map stated lines.items)
Reads bytes (Err Memory) = Unit {0}
Reads bytes (Err (Version n)) = LacksVersion (rows_of bytes) n
Reads bytes (Err (BadLine n)) = AfterVersion (rows_of bytes) (λ rows. IsFirstBad rows n)

-- each line's number is greater than the one before it
abbrev pub IsAscending : List Stated → Type 0
IsAscending [] = Unit {0}
IsAscending (a ∷ []) = Unit {0}
IsAscending (a ∷ (b ∷ lines)) = (a.number < b.number) × IsAscending (b ∷ lines)
