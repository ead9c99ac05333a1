-- What a constraint line says, and how it is spelled.
--     Form                      what a line says
--     level, digit              the words of a bit
--     skip_blanks, cut_blanks, after_word, reason_in   what stands behind words
--     IsForm words reason form  the line of these words and this reason has the form
--     Spells text form          a line spells a form
use Rattle.std.specs.Prelude.{◌≡◌, ◌≢◌, ℕ, Bool, not, if◌then◌else◌, List, [], ◌∷◌, codes, take, drop}
use Rattle.std.specs.List.{position_or_len, list_all}
use Rattle.std.specs.Str.{IsAscii}
use Rattle.cons_file.specs.Lines.{is_blank, words_in}

-- what a line says: names first, in the order of the line, then whether the level is high or the bit is 1
pub data Form : Type 0 where
  Clock : List ℕ → Form
  Reset : List ℕ → Bool → Form
  Tie : List ℕ → Bool → Form
  Steady : List ℕ → Form
  Track : List ℕ → Form
  Order : List ℕ → List ℕ → Form
  Isolate : List ℕ → List ℕ → Bool → Form
  Quiet : List ℕ → List ℕ → Form
  Waive : List ℕ → List ℕ → Form

-- the word of a level
abbrev pub level : Bool → List ℕ
level high = if high then codes "high" else codes "low"

-- the word of a bit
abbrev pub digit : Bool → List ℕ
digit one = if one then codes "1" else codes "0"

-- a text from its first byte that is no blank on
abbrev pub skip_blanks : List ℕ → List ℕ
skip_blanks text = drop (position_or_len (λ b. not (is_blank b)) text) text

-- a text without the blanks at its end
abbrev pub cut_blanks : List ℕ → List ℕ
cut_blanks [] = []
cut_blanks (b ∷ text) = if list_all is_blank (b ∷ text) then [] else b ∷ cut_blanks text

-- what stands behind the first word of a text
abbrev pub after_word : List ℕ → List ℕ
after_word text = drop (position_or_len is_blank (skip_blanks text)) (skip_blanks text)

-- the rest of a line behind its first two words, without the blanks at its ends
abbrev pub reason_in : List ℕ → List ℕ
reason_in text = cut_blanks (skip_blanks (after_word (after_word text)))

-- the line of these words, with this rest behind the first two, has the form
abbrev pub IsForm : List (List ℕ) → List ℕ → Form → Type 0
IsForm words rest (Clock port) = words ≡ codes "clock" ∷ port ∷ []
IsForm words rest (Reset name high) = words ≡ codes "reset" ∷ name ∷ level high ∷ []
IsForm words rest (Tie port one) = words ≡ codes "tie" ∷ port ∷ digit one ∷ []
IsForm words rest (Steady port) = words ≡ codes "steady" ∷ port ∷ []
IsForm words rest (Track name) = words ≡ codes "track" ∷ name ∷ []
IsForm words rest (Order first second) = words ≡ codes "order" ∷ first ∷ codes "before" ∷ second ∷ []
IsForm words rest (Isolate reset bit one) = words ≡ codes "isolate" ∷ reset ∷ codes "when" ∷ bit ∷ codes "is" ∷ digit one ∷ []
IsForm words rest (Quiet reset clock) = words ≡ codes "quiet" ∷ reset ∷ clock ∷ []
IsForm words rest (Waive flop reason) = (take 2 words ≡ codes "waive" ∷ flop ∷ []) × (rest ≡ reason) × (reason ≢ [])

-- the line, without its comment, is ASCII and has the form
pub record Spells (text : List ℕ) (form : Form) : Type 0 where
  pub ascii : IsAscii text
  pub said : IsForm (words_in text) (reason_in text) form
