-- What names mean: frames of meanings, the innermost first, each a function from a name to its meaning.
--     no_names, with_name names name m      one frame: with no name, and with one more
--     found frames name                     the meaning in the first frame that has the name
--     innermost frames, declared frames name m      the innermost frame, and all with a name declared in it
--     declaring frames name m               the same, unless the innermost frame has the name
--     left frames                           all but the innermost
--     names_of frame, frames_of scope       the same of the program's tables
use Rattle.std.specs.Prelude.{ℕ, if◌then◌else◌, List, [], ◌∷◌, map, reverse, Option, Some, None}
use Rattle.std.specs.Option.{is_some, option_or}
use Rattle.std.specs.Str.{bytes_eq}
use Rattle.std.specs.HashMap as hash
use Rattle.elab_names.specs.declared.meaning.Meaning.{Meaning}
use Rattle.elab_names.specs.declared.frame.Frame.{Frame}
use Rattle.elab_names.specs.declared.scope.Scope.{Scope}

-- what each name means, in one frame
abbrev pub Names : Type 0
Names = List ℕ → Option Meaning

-- the innermost frame first
abbrev pub Frames : Type 0
Frames = List Names

-- no name is declared
abbrev pub no_names : Names
no_names name = None

-- the same, but for one name
abbrev pub with_name : Names → List ℕ → Meaning → Names
with_name names name m = λ other. if bytes_eq name other then Some m else names other

-- the meaning in the first frame that has the name
unfoldable pub found : Frames → List ℕ → Option Meaning
found [] name = None
found (names ∷ outer) name = option_or (names name) (found outer name)

abbrev pub innermost : Frames → Names
innermost [] = no_names
innermost (names ∷ outer) = names

-- one more name in the innermost frame
abbrev pub declared : Frames → List ℕ → Meaning → Frames
declared [] name m = []
declared (names ∷ outer) name m = with_name names name m ∷ outer

-- a name that the innermost frame has stays what it is, and any other one is declared there
unfoldable pub declaring : Frames → List ℕ → Meaning → Frames
declaring frames name m = if is_some (innermost frames name) then frames else declared frames name m

-- without the innermost frame, where another one is left
unfoldable pub left : Frames → Frames
left [] = []
left (names ∷ []) = names ∷ []
left (names ∷ next ∷ outer) = next ∷ outer

-- what the names of a table mean
abbrev pub names_of : Frame → Names
names_of frame = λ name. hash.get_by (λ key. bytes_eq name key.items) frame.table

-- what the names of tables mean, the last table first
abbrev pub names_of_all : List Frame → Frames
names_of_all frames = map names_of (reverse frames)

-- what the names of a scope mean
abbrev pub frames_of : Scope → Frames
frames_of scope = names_of scope.inner ∷ names_of_all scope.outer.items
