-- The last file of a name, found from the front, for `specs/MemoryShelf.antt`.
use Rattle.std.proofs.Common.{◌≡◌, ◌∙◌, sym, refl, ap, ℕ, List, [], ◌∷◌, ◌++◌, map, append_assoc, Bool, true, false, Decides, Option, Some, None, Bor}
use Rattle.std.proofs.lemmas.Slice.Eq.{bytes_eq-Decides}
use Rattle.std.proofs.lemmas.List.{map-append}
use Rattle.rdc_outside.specs.Shelf.{KeepsOthers}
use Rattle.rdc_outside.specs.Pile.{Entry}
use Rattle.std.specs.Option.{option_or, option_copied}
use Rattle.rdc_outside.specs.MemoryShelf.{File, file_of, bytes_if, file_in}

pub option_or-none : {A : Type 0} (a : Option A) → option_or a None ≡ a
option_or-none None = refl
option_or-none (Some a) = refl

pub option_or_assoc : {A : Type 0} (a b c : Option A) → option_or (option_or a b) c ≡ option_or a (option_or b c)
option_or_assoc None b c = refl
option_or_assoc (Some a) b c = refl

pub option_copied-option_or : {A : Type 0} (a b : Option (Bor A)) → option_copied (option_or a b) ≡ option_or (option_copied a) (option_copied b)
option_copied-option_or None b = refl
option_copied-option_or (Some a) b = refl

-- files that come later count first
pub file_in-append : (files later : List File) (name : List ℕ) → file_in (files ++ later) name ≡ option_or (file_in later name) (file_in files name)
file_in-append [] later name = sym (option_or-none (file_in later name))
file_in-append (file ∷ files) later name =
    ap (λ found. option_or found (bytes_if file name)) (file_in-append files later name) ∙ option_or_assoc (file_in later name) (file_in files name) (bytes_if file name)

-- one file further, what is found here counts before what was found earlier
pub file_in-step : (file : File) (later : List File) (name : List ℕ) (here found next : Option (Bor (List ℕ)))
    → option_copied here ≡ bytes_if file name → next ≡ option_or here found
    → option_or (file_in later name) (option_copied next) ≡ option_or (file_in (file ∷ later) name) (option_copied found)
file_in-step file later name here found next here_is next_is =
    rw (next_is, option_copied-option_or here found, here_is) (sym (option_or_assoc (file_in later name) (bytes_if file name) (option_copied found)))

-- what was found among the later files counts before what was found among the earlier ones
pub file_in-found : (files later : List File) (name : List ℕ) (here earlier found : Option (Bor (List ℕ)))
    → option_copied here ≡ file_in later name → option_copied earlier ≡ file_in files name → found ≡ option_or here earlier
    → option_copied found ≡ file_in (files ++ later) name
file_in-found files later name here earlier found here_is earlier_is found_is =
    rw (found_is, option_copied-option_or here earlier, here_is, earlier_is) (sym (file_in-append files later name))

-- a file has its own name
pub bytes_if-same : (file : File) (name : List ℕ) → file.name ≡ name → bytes_if file name ≡ Some file.bytes
bytes_if-same file name is = rw ((bytes_eq-Decides file.name name).1 is) refl

false_from_Decides : {P : Type 0} (r : Bool) → Decides r P → ¬ P → r ≡ false
false_from_Decides true decides refuted = absurd (refuted (decides.0 refl))
false_from_Decides false decides refuted = refl

-- and no other
pub bytes_if-other : (file : File) (name other : List ℕ) → file.name ≡ name → ¬ (other ≡ name) → bytes_if file other ≡ None
bytes_if-other file name other is differs = rw (false_from_Decides _ (bytes_eq-Decides file.name other) (λ same. differs (sym same ∙ is))) refl

-- a file at the end counts first
pub file_in-last : (files : List File) (file : File) (name : List ℕ) → file_in (files ++ file ∷ []) name ≡ option_or (bytes_if file name) (file_in files name)
file_in-last files file name = file_in-append files (file ∷ []) name

-- one more file at the end gives its name its bytes, and keeps the others
pub SaveAnswers-last : (files after : List File) (name bytes written : List ℕ) → after ≡ files ++ record { name = written; bytes = bytes } ∷ [] → written ≡ name
    → (file_in after name ≡ Some bytes) × KeepsOthers (file_in files) (file_in after) name
SaveAnswers-last files after name bytes written after_is same =
    rw after_is (
      rw (file_in-last files (record { name = written; bytes = bytes }) name, bytes_if-same (record { name = written; bytes = bytes }) name same) refl,
      λ other differs.
          rw (file_in-last files (record { name = written; bytes = bytes }) other, bytes_if-other (record { name = written; bytes = bytes }) name other same differs) refl,
    )

-- the same where the file is the last entry of a pile
pub SaveAnswers-put : (given : List File) (saved after : List Entry) (most : Option ℕ) (name bytes written : List ℕ)
    → after ≡ saved ++ record { most = most; name = written; bytes = bytes } ∷ [] → written ≡ name
    → (file_in (given ++ map file_of after) name ≡ Some bytes)
    × KeepsOthers (file_in (given ++ map file_of saved)) (file_in (given ++ map file_of after)) name
SaveAnswers-put given saved after most name bytes written after_is same =
    SaveAnswers-last (given ++ map file_of saved) (given ++ map file_of after) name bytes written
    (rw (after_is, map-append file_of saved (record { most = most; name = written; bytes = bytes } ∷ []), append_assoc given (map file_of saved) (record { name = written; bytes = bytes } ∷ [])) refl) same
