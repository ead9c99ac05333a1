-- What the words of the command line ask for.
use Rattle.std.specs.Prelude.{ℕ, Bool, true, false, not, ◌&&◌, ◌||◌, ◌==◌, if◌then◌else◌, List, [], ◌∷◌, map, Option, Some, None, codes, String, string_bytes}
use Rattle.std.specs.List.{list_any}
use Rattle.std.specs.Str.{bytes_eq}
use Rattle.std.specs.declared.alloc.Global.{Global}
use Rattle.rdcsign.specs.declared.request.Request.{Request as Lent}

-- the module to judge, the file of constraints, and the files of source
pub record Request : Type 0 where
  pub top : List ℕ
  pub constraints : List ℕ
  pub files : List (List ℕ)

-- the bytes of each word
abbrev pub texts : List (String Global) → List (List ℕ)
texts words = map string_bytes words

-- whether a word begins as an option does
abbrev pub has_dash : List ℕ → Bool
has_dash [] = false
has_dash (b ∷ bs) = b == 45

-- whether there is a word at all
abbrev pub has_words : List (List ℕ) → Bool
has_words [] = false
has_words (word ∷ words) = true

-- the first of some words
abbrev pub first_of : List (List ℕ) → List ℕ
first_of [] = []
first_of (word ∷ words) = word

-- words ask for a check where the first is its mode, there is a file of source, and none of the others is an option
abbrev pub asked : List ℕ → List ℕ → List ℕ → List (List ℕ) → Option Request
asked mode top constraints files =
    if bytes_eq mode (codes "check") && has_words files && not (has_dash top || has_dash constraints || list_any has_dash files)
    then Some (record { top = top; constraints = constraints; files = files }) else None

-- `check TOP CONSTRAINTS FILE..`; all else asks for nothing
abbrev pub request_of : List (List ℕ) → Option Request
request_of (mode ∷ top ∷ constraints ∷ files) = asked mode top constraints files
request_of words = None

-- a request, without where its words lie in memory
abbrev pub seen : Lent → Request
seen r = record { top = r.top.now; constraints = r.constraints.now; files = texts r.files.now }
