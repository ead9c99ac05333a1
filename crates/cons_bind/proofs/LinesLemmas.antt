-- Some line of a list that grows.
use Rattle.std.proofs.Common.{◌≡◌, ◌⊎◌, ℕ, ◌<◌, Bool, true, List, [], ◌∷◌, ◌++◌, length, set, inl, inr}
use Rattle.cons_file.specs.File.{Stated}
use Rattle.cons_file.specs.Forms.{Form}
use Rattle.cons_file.specs.declared.line.Line.{Line}
use Rattle.cons_file.specs.declared.line.LineForm.TheVariants.{Clock}
use Rattle.cons_bind.specs.Marks.{Marks}
use Rattle.cons_bind.proofs.MarksLemmas.{marks_more, marks_same}
use Rattle.cons_bind.specs.Declarations.{SomeLine}

pub some_from : (P : Stated → Type 0) (lines : List Stated) (line : Stated) → SomeLine P (lines ++ (line ∷ [])) → SomeLine P lines ⊎ P line
some_from P [] line (inl here) = inr here
some_from P [] line (inr later) = absurd later
some_from P (x ∷ lines) line (inl here) = inl (inl here)
some_from P (x ∷ lines) line (inr later) = elim (some_from P lines line later) [ inl before ↦ inl (inr before) | inr last ↦ inr last ]

pub some_before : (P : Stated → Type 0) (lines : List Stated) (line : Stated) → SomeLine P lines → SomeLine P (lines ++ (line ∷ []))
some_before P [] line is = absurd is
some_before P (x ∷ lines) line (inl here) = inl here
some_before P (x ∷ lines) line (inr later) = inr (some_before P lines line later)

pub some_last : (P : Stated → Type 0) (lines : List Stated) (line : Stated) → P line → SomeLine P (lines ++ (line ∷ []))
some_last P [] line is = inl is
some_last P (x ∷ lines) line is = inr (some_last P lines line is)

-- a line that declares a source, which is marked, and one that declares none
pub line_marks : (D : ℕ → Form → Type 0) → ((s t : ℕ) (form : Form) → D s form → D t form → s ≡ t) → (lines : List Stated) (line : Stated) (marks : List Bool) (s : ℕ) → s < length marks → D s line.form
    → Marks (λ t. SomeLine (λ l. D t l.form) lines) marks → Marks (λ t. SomeLine (λ l. D t l.form) (lines ++ (line ∷ []))) (set marks s true)
line_marks D once lines line marks s lt is before =
    marks_more (λ t. SomeLine (λ l. D t l.form) lines) (λ t. SomeLine (λ l. D t l.form) (lines ++ (line ∷ []))) marks s lt
    (λ t some. elim (some_from (λ l. D t l.form) lines line some) [ inl old ↦ inl old | inr new ↦ inr (once t s line.form new is) ])
    (λ t some. some_before (λ l. D t l.form) lines line some)
    (some_last (λ l. D s l.form) lines line is)
    before

pub line_skips : (D : ℕ → Form → Type 0) (lines : List Stated) (line : Stated) (marks : List Bool) → ((s : ℕ) → D s line.form → ⊥)
    → Marks (λ t. SomeLine (λ l. D t l.form) lines) marks → Marks (λ t. SomeLine (λ l. D t l.form) (lines ++ (line ∷ []))) marks
line_skips D lines line marks none before =
    marks_same (λ t. SomeLine (λ l. D t l.form) lines) (λ t. SomeLine (λ l. D t l.form) (lines ++ (line ∷ []))) marks
    (λ t some. some_before (λ l. D t l.form) lines line some)
    (λ t some. elim (some_from (λ l. D t l.form) lines line some) [ inl old ↦ old | inr new ↦ absurd (none t new) ])
    before

-- what is read past the end of a list of lines
abbrev pub no_line : Line
no_line = record { number = 0; form = Clock (record { ref_ptr = (0, 0); now = [] }) }
