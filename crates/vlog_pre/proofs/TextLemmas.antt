-- ASCII is text.
use Rattle.std.proofs.Common.{◌≡◌, ℕ, ◌<◌, true, false, List, length, get_or, ⊎_elim, arith}
use Rattle.std.specs.Char.{is_ascii}
use Rattle.std.specs.List.{list_all}
use Rattle.std.specs.Str.{IsUtf8}
use Rattle.std.proofs.lemmas.Bool.{cases_Bool, cases_lt}
use Rattle.std.proofs.lemmas.Bool.Decides.{nat_tests}
use Rattle.std.proofs.lemmas.List.{get_or_past}
use Rattle.std.proofs.lemmas.List.Folds.{list_all_at}
use Rattle.std.proofs.lemmas.Str.{IsUtf8-from_ascii}

-- each byte of ASCII is below 128
ascii_at : (bs : List ℕ) → list_all is_ascii bs ≡ true → (i : ℕ) → get_or bs i 0 < 128
ascii_at bs all i =
    ⊎_elim
    (λ inside.
    ⊎_elim
    (λ here. grind (arith, nat_tests, here))
    (λ here. let none : list_all is_ascii bs ≡ false = list_all_at is_ascii bs i 0 inside here in absurd cc)
    (cases_Bool (is_ascii (get_or bs i 0))))
    (λ past. rw (get_or_past bs i 0 past) (omega arith))
    (cases_lt i (length bs))

pub ascii_is_text : (bs : List ℕ) → list_all is_ascii bs ≡ true → IsUtf8 bs
ascii_is_text bs all = IsUtf8-from_ascii bs (ascii_at bs all)
