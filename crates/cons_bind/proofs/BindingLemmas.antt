-- The faults of a line, and lines one by one.
use Rattle.std.proofs.Common.{◌≡◌, ℕ, zero, suc, ◌+◌, ◌<◌, Bool, true, false, Err, List, [], ◌∷◌, ◌++◌, length, map, take, drop, get_or, refl, sym, ap, subst, ◌∙◌, inl, inr, arith, append_assoc, append-nil}
use Rattle.cons_file.specs.Forms as forms
use Rattle.cons_file.specs.Forms.{Form}
use Rattle.cons_file.specs.File.{Stated}
use Rattle.cons_bind.specs.Names.{Net}
use Rattle.cons_bind.specs.Wants.{Fails, FailsBit, misfit}
use Rattle.cons_bind.specs.Meaning.{HasCause, TrackFails}
use Rattle.cons_bind.specs.Binding.{forms_of, Stands, AreBound, LineFails, StopsAt, Binds}
use Rattle.cons_bind.specs.Causes.{fault_at, OnCause}
use Rattle.cons_bind.specs.declared.cause.Cause.{Cause}
use Rattle.cons_bind.specs.declared.cause.Cause.TheVariants.{Memory, NoName, NotOneBit, NotAnInput, NotAFlop, NotAReset, NotAClock, ClockRead, Twice, TrackLimit}
use Rattle.cons_bind.specs.declared.wanted.Wanted.{Wanted}
use Rattle.cons_bind.specs.declared.wanted.Wanted.TheVariants.{Input, Flop, ResetSource, DeclaredReset, DeclaredClock}
use Rattle.cons_bind.specs.declared.bound.BoundLine.{BoundLine}

-- ---- a name's fault is none of those that come after the names

abbrev comes_late : Cause → Bool
comes_late Memory = false
comes_late NoName = false
comes_late NotOneBit = false
comes_late NotAnInput = false
comes_late NotAFlop = false
comes_late NotAReset = false
comes_late NotAClock = false
comes_late ClockRead = true
comes_late Twice = true
comes_late TrackLimit = true

misfit_early : (wanted : Wanted) → comes_late (misfit wanted) ≡ false
misfit_early Input = refl
misfit_early Flop = refl
misfit_early ResetSource = refl
misfit_early DeclaredReset = refl
misfit_early DeclaredClock = refl

apart : (b : Bool) → b ≡ false → b ≡ true → ⊥
apart b e f = let g : false ≡ true = sym e ∙ f in absurd cc

fails_early : (net : Net) (lines : List Stated) (wanted : Wanted) (name : List ℕ) (cause : Cause) → Fails net lines wanted name cause → comes_late cause ≡ true → ⊥
fails_early net lines wanted name Memory fails late = apart false refl late
fails_early net lines wanted name NoName fails late = apart false refl late
fails_early net lines wanted name NotOneBit fails late = apart false refl late
fails_early net lines wanted name NotAnInput fails late = apart false refl late
fails_early net lines wanted name NotAFlop fails late = apart false refl late
fails_early net lines wanted name NotAReset fails late = apart false refl late
fails_early net lines wanted name NotAClock fails late = apart false refl late
fails_early net lines wanted name ClockRead fails late = apart true (ap comes_late fails.0 ∙ misfit_early wanted) late
fails_early net lines wanted name Twice fails late = apart true (ap comes_late fails.0 ∙ misfit_early wanted) late
fails_early net lines wanted name TrackLimit fails late = apart true (ap comes_late fails.0 ∙ misfit_early wanted) late

bit_early : (net : Net) (name : List ℕ) (cause : Cause) → FailsBit net name cause → comes_late cause ≡ true → ⊥
bit_early net name Memory fails late = absurd fails
bit_early net name NoName fails late = apart false refl late
bit_early net name NotOneBit fails late = apart false refl late
bit_early net name NotAnInput fails late = absurd fails
bit_early net name NotAFlop fails late = absurd fails
bit_early net name NotAReset fails late = absurd fails
bit_early net name NotAClock fails late = absurd fails
bit_early net name ClockRead fails late = absurd fails
bit_early net name Twice fails late = absurd fails
bit_early net name TrackLimit fails late = absurd fails

track_early : (net : Net) (name : List ℕ) (cause : Cause) → TrackFails net name cause → comes_late cause ≡ true → ⊥
track_early net name Memory fails late = absurd fails
track_early net name NoName fails late = apart false refl late
track_early net name NotOneBit fails late = absurd fails
track_early net name NotAnInput fails late = absurd fails
track_early net name NotAFlop fails late = apart false refl late
track_early net name NotAReset fails late = absurd fails
track_early net name NotAClock fails late = absurd fails
track_early net name ClockRead fails late = absurd fails
track_early net name Twice fails late = absurd fails
track_early net name TrackLimit fails late = absurd fails

cause_early : (net : Net) (lines : List Stated) (form : Form) (cause : Cause) → HasCause net lines form cause → comes_late cause ≡ true → ⊥
cause_early net lines (forms.Clock port) cause fails late = fails_early net lines Input port cause fails late
cause_early net lines (forms.Reset name high) cause fails late = fails_early net lines ResetSource name cause fails late
cause_early net lines (forms.Tie port one) cause fails late = fails_early net lines Input port cause fails late
cause_early net lines (forms.Steady port) cause fails late = fails_early net lines Input port cause fails late
cause_early net lines (forms.Track name) cause fails late = track_early net name cause fails late
cause_early net lines (forms.Order first second) cause (inl fails) late = fails_early net lines DeclaredReset first cause fails late
cause_early net lines (forms.Order first second) cause (inr fails) late = fails_early net lines DeclaredReset second cause fails.1 late
cause_early net lines (forms.Isolate reset bit one) cause (inl fails) late = fails_early net lines DeclaredReset reset cause fails late
cause_early net lines (forms.Isolate reset bit one) cause (inr fails) late = bit_early net bit cause fails.1 late
cause_early net lines (forms.Quiet reset clock) cause (inl fails) late = fails_early net lines DeclaredReset reset cause fails late
cause_early net lines (forms.Quiet reset clock) cause (inr fails) late = fails_early net lines DeclaredClock clock cause fails.1 late
cause_early net lines (forms.Waive flop reason) cause fails late = fails_early net lines Flop flop cause fails late

-- a name's fault is the line's
pub name_fails : (net : Net) (lines : List Stated) (before : List BoundLine) (form : Form) (cause : Cause) → HasCause net lines form cause → LineFails net lines before form cause
name_fails net lines before form Memory fails = fails
name_fails net lines before form NoName fails = fails
name_fails net lines before form NotOneBit fails = fails
name_fails net lines before form NotAnInput fails = fails
name_fails net lines before form NotAFlop fails = fails
name_fails net lines before form NotAReset fails = fails
name_fails net lines before form NotAClock fails = fails
name_fails net lines before form ClockRead fails = absurd (cause_early net lines form ClockRead fails refl)
name_fails net lines before form Twice fails = absurd (cause_early net lines form Twice fails refl)
name_fails net lines before form TrackLimit fails = absurd (cause_early net lines form TrackLimit fails refl)

-- ---- lines one by one

-- one more line
pub bound_push : (net : Net) (lines : List Stated) (start : List BoundLine) (some : List Stated) (bound : List BoundLine) (line : Stated) (it : BoundLine) → AreBound net lines start some bound → it.number ≡ line.number
    → Stands net lines (start ++ bound) line.form it.form → AreBound net lines start (some ++ (line ∷ [])) (bound ++ (it ∷ []))
bound_push net lines start [] [] line it are number stands = (number, subst (λ before. Stands net lines before line.form it.form) (append-nil start) stands, tt)
bound_push net lines start [] (b ∷ bound) line it are number stands = absurd are
bound_push net lines start (l ∷ some) [] line it are number stands = absurd are
bound_push net lines start (l ∷ some) (b ∷ bound) line it are number stands =
    (are.0, are.1, bound_push net lines (start ++ (b ∷ [])) some bound line it are.2 number (subst (λ before. Stands net lines before line.form it.form) (sym (append_assoc start (b ∷ []) bound)) stands))

-- the fault of a line, behind those before it
pub stops : (net : Net) (lines front back : List Stated) (bad : Stated) (before : List BoundLine) (cause : Cause) → lines ≡ front ++ (bad ∷ back) → AreBound net lines [] front before → LineFails net lines before bad.form cause → StopsAt net lines cause bad.number
stops net lines front back bad before cause parts bound fails = record {
  front = front;
  bad = bad;
  back = back;
  parts = parts;
  before = before;
  bound = bound;
  fails = fails;
  number = refl;
}

pub fault_binds : (net : Net) (lines front back : List Stated) (bad : Stated) (before : List BoundLine) (cause : Cause) → lines ≡ front ++ (bad ∷ back) → AreBound net lines [] front before → OnCause (LineFails net lines before bad.form) cause
    → Binds net lines (Err (fault_at cause bad.number))
fault_binds net lines front back bad before Memory parts bound fails = tt
fault_binds net lines front back bad before NoName parts bound fails = stops net lines front back bad before NoName parts bound fails
fault_binds net lines front back bad before NotOneBit parts bound fails = stops net lines front back bad before NotOneBit parts bound fails
fault_binds net lines front back bad before NotAnInput parts bound fails = stops net lines front back bad before NotAnInput parts bound fails
fault_binds net lines front back bad before NotAFlop parts bound fails = stops net lines front back bad before NotAFlop parts bound fails
fault_binds net lines front back bad before NotAReset parts bound fails = stops net lines front back bad before NotAReset parts bound fails
fault_binds net lines front back bad before NotAClock parts bound fails = stops net lines front back bad before NotAClock parts bound fails
fault_binds net lines front back bad before ClockRead parts bound fails = stops net lines front back bad before ClockRead parts bound fails
fault_binds net lines front back bad before Twice parts bound fails = stops net lines front back bad before Twice parts bound fails
fault_binds net lines front back bad before TrackLimit parts bound fails = stops net lines front back bad before TrackLimit parts bound fails

-- a list of lines in three parts
pub map_parts : {X Y : Type 0} (f : X → Y) (xs : List X) (i : ℕ) (d : X) → i < length xs → map f xs ≡ map f (take i xs) ++ (f (get_or xs i d) ∷ map f (drop (i + 1) xs))
map_parts f [] i d lt = absurd (omega arith)
map_parts f (x ∷ xs) zero d lt = refl
map_parts f (x ∷ xs) (suc i) d lt =
    let k : suc i + 1 ≡ suc (i + 1) = omega arith in
    rw k (ap (λ l. f x ∷ l) (map_parts f xs i d (omega arith)))

-- one more form
pub forms_push : (bound : List BoundLine) (it : BoundLine) → forms_of (bound ++ (it ∷ [])) ≡ forms_of bound ++ (it.form ∷ [])
forms_push [] it = refl
forms_push (b ∷ bound) it = ap (λ l. b.form ∷ l) (forms_push bound it)
