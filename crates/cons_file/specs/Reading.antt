-- How the words of a line are read, from left to right. The law above it is `IsForm`.
--     and_then                          a step behind another
--     word_in, given_in, last_in, choice_in      one word
--     one_in .. waive_in                what stands behind the first word of each form
--     form_in                           a line
use Rattle.std.specs.Prelude.{ℕ, Bool, true, false, if◌then◌else◌, List, [], ◌∷◌, Option, Some, None, codes}
use Rattle.std.specs.Str.{bytes_eq}
use Rattle.cons_file.specs.Lines.{has_items}
use Rattle.cons_file.specs.Forms.{Form, Clock, Reset, Tie, Steady, Track, Order, Isolate, Quiet, Waive}

-- what f makes of a value that is there
unfoldable pub and_then : {A B : Type 0} → Option A → (A → Option B) → Option B
and_then None f = None
and_then (Some x) f = f x

infixl 10 ◌>>=◌
-- the same, for blocks of steps
abbrev pub ◌>>=◌ : {A B : Type 0} → Option A → (A → Option B) → Option B
r >>= f = and_then r f

-- a word, and the words behind it
unfoldable pub word_in : List (List ℕ) → Option (List ℕ × List (List ℕ))
word_in [] = None
word_in (w ∷ ws) = Some (w, ws)

-- the words behind a given one
unfoldable pub given_in : List ℕ → List (List ℕ) → Option (List (List ℕ))
given_in given [] = None
given_in given (w ∷ ws) = if bytes_eq w given then Some ws else None

-- the one word that there is
unfoldable pub last_in : List (List ℕ) → Option (List ℕ)
last_in [] = None
last_in (w ∷ []) = Some w
last_in (w ∷ (v ∷ ws)) = None

-- which of two words the one word is: whether it is the second
unfoldable pub choice_in : List ℕ → List ℕ → List (List ℕ) → Option Bool
choice_in first second ws = do
  w ← last_in ws
  if bytes_eq w first then Some false else if bytes_eq w second then Some true else None

-- N low, or N high
unfoldable pub reset_in : List (List ℕ) → Option Form
reset_in ws = do
  name ← word_in ws
  high ← choice_in (codes "low") (codes "high") name.1
  Some (Reset name.0 high)

-- P 0, or P 1
unfoldable pub tie_in : List (List ℕ) → Option Form
tie_in ws = do
  port ← word_in ws
  one ← choice_in (codes "0") (codes "1") port.1
  Some (Tie port.0 one)

-- A before B
unfoldable pub order_in : List (List ℕ) → Option Form
order_in ws = do
  first ← word_in ws
  rest ← given_in (codes "before") first.1
  second ← last_in rest
  Some (Order first.0 second)

-- R when S is 0, or R when S is 1
unfoldable pub isolate_in : List (List ℕ) → Option Form
isolate_in ws = do
  reset ← word_in ws
  a ← given_in (codes "when") reset.1
  bit ← word_in a
  b ← given_in (codes "is") bit.1
  one ← choice_in (codes "0") (codes "1") b
  Some (Isolate reset.0 bit.0 one)

-- R C
unfoldable pub quiet_in : List (List ℕ) → Option Form
quiet_in ws = do
  reset ← word_in ws
  clock ← last_in reset.1
  Some (Quiet reset.0 clock)

-- F, and the rest of the line
unfoldable pub waive_in : List (List ℕ) → List ℕ → Option Form
waive_in ws reason = do
  flop ← word_in ws
  if has_items reason then Some (Waive flop.0 reason) else None

-- a name alone
unfoldable pub named_in : (List ℕ → Form) → List (List ℕ) → Option Form
named_in form ws = do
  name ← last_in ws
  Some (form name)

-- what stands behind the first word decides the form
unfoldable pub behind : List ℕ → List (List ℕ) → List ℕ → Option Form
behind verb ws reason =
    if bytes_eq verb (codes "clock") then named_in Clock ws
    else if bytes_eq verb (codes "reset") then reset_in ws
    else if bytes_eq verb (codes "tie") then tie_in ws
    else if bytes_eq verb (codes "steady") then named_in Steady ws
    else if bytes_eq verb (codes "track") then named_in Track ws
    else if bytes_eq verb (codes "order") then order_in ws
    else if bytes_eq verb (codes "isolate") then isolate_in ws
    else if bytes_eq verb (codes "quiet") then quiet_in ws
    else if bytes_eq verb (codes "waive") then waive_in ws reason
    else None

-- the form of a line
unfoldable pub form_in : List (List ℕ) → List ℕ → Option Form
form_in words reason = do
  verb ← word_in words
  behind verb.0 verb.1 reason
