-- Serves specs/Roles.antt: the levels of resets, line by line.
use Rattle.std.proofs.Common.{◌≡◌, ℕ, zero, suc, ◌+◌, ◌<◌, Bool, List, [], ◌∷◌, ◌++◌, length, get_or, take, replicate, Option, Some, None, sym, ap, refl, ◌∙◌}
use Rattle.std.specs.Prelude.{IfSome}
use Rattle.cons_bind.specs.Binding.{forms_of}
use Rattle.cons_bind.specs.declared.bound.BoundForm.{BoundForm}
use Rattle.cons_bind.specs.declared.bound.BoundLine.{BoundLine}
use Rattle.reset_trees.specs.Domains.{reset_in, AreInside}
use Rattle.reset_trees.specs.Marking.{level_at, AreLevels}
use Rattle.reset_trees.specs.Roles.{level_in, or_level, level_of}
use Rattle.reset_trees.proofs.DomainLemmas.{forms_more, line_inside}

or_none : (o : Option Bool) → or_level o None ≡ o
or_none None = refl
or_none (Some high) = refl

or_assoc : (a b d : Option Bool) → or_level (or_level a b) d ≡ or_level a (or_level b d)
or_assoc None b d = refl
or_assoc (Some high) b d = refl

pub level_of-append : (lines : List BoundForm) (form : BoundForm) (s : ℕ) → level_of (lines ++ form ∷ []) s ≡ or_level (level_of lines s) (level_in form s)
level_of-append [] form s = or_none (level_in form s)
level_of-append (x ∷ lines) form s = ap (λ (o : Option Bool). or_level (level_in x s) o) (level_of-append lines form s) ∙ sym (or_assoc (level_in x s) (level_of lines s) (level_in form s))

-- one more line
pub levels_more : (lines : List BoundLine) (k : ℕ) (line : BoundLine) (old new : List (Option Bool)) → k < length lines → line ≡ get_or lines k line → AreLevels (forms_of (take k lines)) old
    → ((s : ℕ) → level_at new s ≡ or_level (level_at old s) (level_in line.form s)) → AreLevels (forms_of (take (k + 1) lines)) new
levels_more lines k line old new lt is before step = λ s.
    step s ∙ ap (λ (o : Option Bool). or_level o (level_in line.form s)) (before s)
    ∙ sym (ap (λ (fs : List BoundForm). level_of fs s) (forms_more lines k line lt is) ∙ level_of-append (forms_of (take k lines)) line.form s)

no_level : (n s : ℕ) → level_at (replicate n None) s ≡ None
no_level zero s = refl
no_level (suc n) zero = refl
no_level (suc n) (suc s) = no_level n s

-- no line was looked at
pub levels_none : (levels : List (Option Bool)) (n : ℕ) → levels ≡ replicate n None → AreLevels [] levels
levels_none levels n is = λ s. ap (λ (ls : List (Option Bool)). level_at ls s) is ∙ no_level n s

inside_of : (count : ℕ) (o : Option ℕ) → ((r : ℕ) → o ≡ Some r → r < count) → IfSome o (λ s. s < count)
inside_of count None h = tt
inside_of count (Some r) h = h r refl

-- the reset of a line is inside
pub level_inside : (count : ℕ) (lines : List BoundLine) (k : ℕ) (line : BoundLine) → AreInside count (forms_of lines) → k < length lines → line ≡ get_or lines k line → IfSome (reset_in line.form) (λ s. s < count)
level_inside count lines k line inside lt is = inside_of count (reset_in line.form) (λ r e. line_inside count lines k line r inside lt is e)
