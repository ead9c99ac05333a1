-- Serves labels: what is left is one bit and the others, or nothing.
use Rattle.std.proofs.Common.{◌≡◌, ℕ, zero, suc, ◌+◌, ◌<◌, ◌≤◌, Bool, true, false, List, [], ◌∷◌, ◌++◌, length, drop, get_or, refl, sym, ap, subst, ◌∙◌, add-one}
use Rattle.std.proofs.lemmas.List.{drop_all, drop_more}
use Rattle.net_view.specs.View.{Numbered}
use Rattle.net_words.specs.declared.bits.Bitwise.TheVariants as op
use Rattle.net_words.specs.Builds.{Build, ◌>>=◌, return}
use Rattle.net_words.specs.Bits.{bit}
use Rattle.net_words.proofs.BuildLemmas.{IsLeft, behind, bit_first, all_bits}
use Rattle.net_words.proofs.WordSteps.{drop_here}
use Rattle.vlog_tree.specs.declared.expr.Expr.{Expr}
use Rattle.vlog_tree.specs.declared.stmt.Matching.{Matching}
use Rattle.vlog_const.specs.declared.shape.Shape.{Shape}
use Rattle.design_form.specs.declared.parts.Parts.{Parts}
use Rattle.net_procs.specs.Labels.{same_at, label_hit, label_hits}

-- the flags behind the first one
abbrev behind_one : List Bool → List Bool
behind_one [] = []
behind_one (f ∷ free) = free

abbrev first_of : List Bool → Bool
first_of [] = false
first_of (f ∷ free) = f

flags_behind : (free : List Bool) (i : ℕ) → behind_one (drop i free) ≡ drop (suc i) free
flags_behind [] zero = refl
flags_behind [] (suc i) = refl
flags_behind (f ∷ free) zero = refl
flags_behind (f ∷ free) (suc i) = flags_behind free i

flags_first : (free : List Bool) (i : ℕ) → first_of (drop i free) ≡ get_or free i false
flags_first [] zero = refl
flags_first [] (suc i) = refl
flags_first (f ∷ free) zero = refl
flags_first (f ∷ free) (suc i) = flags_first free i

counted : (free : List Bool) (a b : ℕ) (x y : List ℕ) → first_of free ≡ false
    → same_at free (a ∷ x) (b ∷ y) ≡ (bit op.Xnor a b >>= (λ n. same_at (behind_one free) x y >>= (λ rest. return (n ∷ rest))))
unfolding same_at
counted [] a b x y is = refl
counted (false ∷ free) a b x y is = refl
counted (true ∷ free) a b x y is = absurd cc

left_out : (free : List Bool) (a b : ℕ) (x y : List ℕ) → first_of free ≡ true → same_at free (a ∷ x) (b ∷ y) ≡ same_at (behind_one free) x y
unfolding same_at
left_out [] a b x y is = absurd cc
left_out (false ∷ free) a b x y is = absurd cc
left_out (true ∷ free) a b x y is = refl

here : (free : List Bool) (x y : List ℕ) (i a b : ℕ) → i < length x → i < length y → a ≡ get_or x i a → b ≡ get_or y i b
    → same_at (drop i free) (drop i x) (drop i y) ≡ same_at (drop i free) (a ∷ drop (i + 1) x) (b ∷ drop (i + 1) y)
here free x y i a b in_x in_y a-is b-is = λ k. same_at (drop i free) (drop_here x i a in_x a-is k) (drop_here y i b in_y b-is k)

next_flags : (free : List Bool) (i : ℕ) → behind_one (drop i free) ≡ drop (i + 1) free
next_flags free i = flags_behind free i ∙ ap (λ n. drop n free) (sym (add-one i))

pub same_here : {all : Build (List ℕ)} {old now : List Numbered} (free : List Bool) (x y made : List ℕ) (i a b : ℕ) → i < length x → i < length y → a ≡ get_or x i a → b ≡ get_or y i b → get_or free i false ≡ false
    → IsLeft all old now (behind made (same_at (drop i free) (drop i x) (drop i y))) → IsLeft all old now (bit op.Xnor a b >>= (λ n. behind (made ++ n ∷ []) (same_at (drop (i + 1) free) (drop (i + 1) x) (drop (i + 1) y))))
same_here {all} {old} {now} free x y made i a b in_x in_y a-is b-is counts left =
    bit_first made (bit op.Xnor a b) (λ n. n) (λ n. same_at (drop (i + 1) free) (drop (i + 1) x) (drop (i + 1) y))
    (subst (λ (fs : List Bool). IsLeft all old now (behind made (bit op.Xnor a b >>= (λ n. same_at fs (drop (i + 1) x) (drop (i + 1) y) >>= (λ rest. return (n ∷ rest)))))) (next_flags free i)
    (subst (λ (m : Build (List ℕ)). IsLeft all old now (behind made m)) (here free x y i a b in_x in_y a-is b-is ∙ counted (drop i free) a b (drop (i + 1) x) (drop (i + 1) y) (flags_first free i ∙ counts)) left))

pub same_skipped : {all : Build (List ℕ)} {old now : List Numbered} (free : List Bool) (x y made : List ℕ) (i a b : ℕ) → i < length x → i < length y → a ≡ get_or x i a → b ≡ get_or y i b → get_or free i false ≡ true
    → IsLeft all old now (behind made (same_at (drop i free) (drop i x) (drop i y))) → IsLeft all old now (behind made (same_at (drop (i + 1) free) (drop (i + 1) x) (drop (i + 1) y)))
same_skipped {all} {old} {now} free x y made i a b in_x in_y a-is b-is skipped left =
    subst (λ (fs : List Bool). IsLeft all old now (behind made (same_at fs (drop (i + 1) x) (drop (i + 1) y)))) (next_flags free i)
    (subst (λ (m : Build (List ℕ)). IsLeft all old now (behind made m)) (here free x y i a b in_x in_y a-is b-is ∙ left_out (drop i free) a b (drop (i + 1) x) (drop (i + 1) y) (flags_first free i ∙ skipped)) left)

none_left : (free : List Bool) (y : List ℕ) → same_at free [] y ≡ return []
unfolding same_at
none_left free y = refl

pub same_whole : {all : Build (List ℕ)} {old now : List Numbered} (free : List Bool) (x y made : List ℕ) (i : ℕ) → length x ≤ i → IsLeft all old now (behind made (same_at (drop i free) (drop i x) (drop i y))) → IsLeft all old now (return made)
same_whole {all} {old} {now} free x y made i past left =
    all_bits made (subst (λ (m : Build (List ℕ)). IsLeft all old now (behind made m)) (ap (λ (w : List ℕ). same_at (drop i free) w (drop i y)) (drop_all i x past) ∙ none_left (drop i free) (drop i y)) left)

-- ---- labels

pub hits_here : {all : Build (List ℕ)} {old now : List Numbered} (d : Parts) (nodes : List ℕ) (how : Matching) (c : Shape) (selector : List ℕ) (es : List Expr) (i : ℕ) (e : Expr) (made : List ℕ) → i < length es → e ≡ get_or es i e
    → IsLeft all old now (behind made (label_hits d nodes how c selector (drop i es))) → IsLeft all old now (label_hit d nodes how c selector e >>= (λ h. behind (made ++ h ∷ []) (label_hits d nodes how c selector (drop (i + 1) es))))
unfolding label_hits
hits_here {all} {old} {now} d nodes how c selector es i e made inside is left =
    bit_first made (label_hit d nodes how c selector e) (λ h. h) (λ h. label_hits d nodes how c selector (drop (i + 1) es))
    (subst (λ (l : List Expr). IsLeft all old now (behind made (label_hits d nodes how c selector l))) (drop_more es i e inside ∙ ap (λ (x : Expr). x ∷ drop (i + 1) es) (sym is)) left)

pub hits_whole : {all : Build (List ℕ)} {old now : List Numbered} (d : Parts) (nodes : List ℕ) (how : Matching) (c : Shape) (selector : List ℕ) (es : List Expr) (i : ℕ) (made : List ℕ) → length es ≤ i
    → IsLeft all old now (behind made (label_hits d nodes how c selector (drop i es))) → IsLeft all old now (return made)
unfolding label_hits
hits_whole {all} {old} {now} d nodes how c selector es i made past left =
    all_bits made (subst (λ (l : List Expr). IsLeft all old now (behind made (label_hits d nodes how c selector l))) (drop_all i es past) left)
