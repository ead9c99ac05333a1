-- Entries at the end of a pile, for `specs/Pile.antt`.
use Rattle.std.proofs.Common.{◌≡◌, ◌∙◌, refl, ap, ℕ, suc, ◌+◌, ◌≤◌, List, [], ◌∷◌, ◌++◌, length, drop, Option, arith, length-append, length-drop, append_assoc}
use Rattle.std.proofs.lemmas.List.{take-append-le, drop-append-le}
use Rattle.std.proofs.Math.Seq.{take-length, drop-length}
use Rattle.rdc_outside.specs.declared.pile.Span.{Span}
use Rattle.rdc_outside.specs.Pile.{span_length, entry_of, entries_of, total_length}

-- what follows a text doesn't change the entry at its front
pub entry_of-append : (span : Span) (text more : List ℕ) → span_length span ≤ length text → entry_of span (text ++ more) ≡ entry_of span text
entry_of-append span text more fits =
    rw (
      take-append-le span.name text more (omega (arith, fits)),
      drop-append-le span.name text more (omega (arith, fits)),
      take-append-le span.bytes (drop span.name text) more (rw (length-drop span.name text) (omega (arith, fits))),
    ) refl

pub total_length-append : (xs ys : List Span) → total_length (xs ++ ys) ≡ total_length xs + total_length ys
total_length-append [] ys = omega arith
total_length-append (x ∷ xs) ys = omega (arith, total_length-append xs ys)

-- there is an entry for each span
pub length-entries_of : (spans : List Span) (text : List ℕ) → length (entries_of spans text) ≡ length spans
length-entries_of [] text = refl
length-entries_of (span ∷ spans) text = ap suc (length-entries_of spans (drop (span_length span) text))

-- a span at the end is the entry that the text ends with
pub entries_of-append : (spans : List Span) (span : Span) (text more : List ℕ) → total_length spans ≡ length text
    → entries_of (spans ++ span ∷ []) (text ++ more) ≡ entries_of spans text ++ entry_of span more ∷ []
entries_of-append [] span [] more filled = refl
entries_of-append [] span (byte ∷ text) more filled = absurd (omega (arith, filled))
entries_of-append (first ∷ spans) span text more filled =
    rw (entry_of-append first text more (omega (arith, filled)), drop-append-le (span_length first) text more (omega (arith, filled)))
    (ap (λ rest. entry_of first text ∷ rest)
    (entries_of-append spans span (drop (span_length first) text) more (rw (length-drop (span_length first) text) (omega (arith, filled)))))

-- the entry of a name and its bytes
pub entry_of-whole : (most : Option ℕ) (name bytes : List ℕ)
    → entry_of (record { most = most; name = length name; bytes = length bytes }) (name ++ bytes) ≡ record { most = most; name = name; bytes = bytes }
entry_of-whole most name bytes =
    rw (take-append-le (length name) name bytes (omega arith), take-length name, drop-append-le (length name) name bytes (omega arith), drop-length name, take-length bytes) refl

-- one more entry stands at the end, once its name and its bytes follow the text
pub entries_of-put : (spans after : List Span) (text named whole : List ℕ) (most : Option ℕ) (name bytes : List ℕ)
    → total_length spans ≡ length text
    → after ≡ spans ++ record { most = most; name = length name; bytes = length bytes } ∷ [] → named ≡ text ++ name → whole ≡ named ++ bytes
    → entries_of after whole ≡ entries_of spans text ++ record { most = most; name = name; bytes = bytes } ∷ []
entries_of-put spans after text named whole most name bytes filled pushed named_is whole_is =
    rw (pushed, whole_is, named_is, append_assoc text name bytes)
    (entries_of-append spans _ text (name ++ bytes) filled ∙ ap (λ last. entries_of spans text ++ last ∷ []) (entry_of-whole most name bytes))

-- the spans fill the text with it
pub total_length-put : (spans after : List Span) (text named whole : List ℕ) (most : Option ℕ) (name bytes : List ℕ)
    → total_length spans ≡ length text
    → after ≡ spans ++ record { most = most; name = length name; bytes = length bytes } ∷ [] → named ≡ text ++ name → whole ≡ named ++ bytes
    → total_length after ≡ length whole
total_length-put spans after text named whole most name bytes filled pushed named_is whole_is =
    rw (pushed, whole_is, named_is)
    (omega (arith, filled, total_length-append spans (record { most = most; name = length name; bytes = length bytes } ∷ []), length-append (text ++ name) bytes, length-append text name))
