-- Serves src/targets.rt: members of a target, from the last one up.
use Rattle.std.proofs.Common.{◌≡◌, ℕ, zero, suc, ◌+◌, ◌<◌, ◌≤◌, List, [], ◌∷◌, ◌++◌, length, map, drop, get_or, Option, Some, None, slice_get, refl, sym, ap, subst, ◌∙◌, arith}
use Rattle.std.proofs.lemmas.List.{drop_all, drop_more}
use Rattle.std.proofs.lemmas.Option.{slice_get_read}
use Rattle.vlog_tree.specs.declared.expr.Expr.{Expr}
use Rattle.design_form.specs.declared.parts.Parts.{Parts}
use Rattle.design_sizes.specs.Sizes.{shape_of}
use Rattle.net_view.specs.View.{Numbered}
use Rattle.net_words.specs.Builds.{Build, ◌>>=◌, return}
use Rattle.net_words.proofs.BuildLemmas.{IsLeft, all_left}
use Rattle.net_procs.specs.declared.stroke.Stroke.{Stroke}
use Rattle.net_procs.specs.Targets.{Written, strokes, onto_members, widths}
use Rattle.net_procs.proofs.Steps.{steps_through, step_alone, no_step, left_as, given, inner, there_is, down}

abbrev pub beside : Parts → List ℕ → List Expr → List (Expr × Written)
beside d nodes es = map (λ e. (e, strokes d nodes e)) es

left_here : (es : List Expr) (at left : ℕ) (m : Expr) → left ≡ at + 1 → left ≤ length es → m ≡ get_or es at m → drop at es ≡ m ∷ drop left es
left_here es at left m step inside is = drop_more es at m (omega (arith, step, inside)) ∙ (λ k. sym is k ∷ drop (sym step k) es)

-- a member behind strokes that are drawn
abbrev onto_one : Parts → List ℕ → Option Expr → List ℕ → List Stroke → Build (List Stroke)
onto_one d nodes None w ks = return ks
onto_one d nodes (Some m) w ks = strokes d nodes m w >>= (λ top. return (ks ++ top))

-- member i
abbrev pub member_on : Parts → List ℕ → List Expr → List ℕ → ℕ → List Stroke → Build (List Stroke)
member_on d nodes es w i ks = onto_one d nodes (slice_get es i) (drop (widths d (beside d nodes (drop (suc i) es))) w) ks

member_is : (d : Parts) (nodes : List ℕ) (es : List Expr) (w : List ℕ) (i : ℕ) (m : Expr) (ks : List Stroke) → i < length es → m ≡ get_or es i m
    → member_on d nodes es w i ks ≡ (strokes d nodes m (drop (widths d (beside d nodes (drop (suc i) es))) w) >>= (λ top. return (ks ++ top)))
member_is d nodes es w i m ks inside is = ap (λ (o : Option Expr). onto_one d nodes o (drop (widths d (beside d nodes (drop (suc i) es))) w) ks) (slice_get_read es (length es) i m refl inside is)

one_above : (d : Parts) (nodes : List ℕ) (es : List Expr) (w : List ℕ) (n : ℕ) (m : Expr) → n < length es → m ≡ get_or es n m
    → onto_members d (beside d nodes (drop n es)) w ≡ (onto_members d (beside d nodes (drop (suc n) es)) w >>= member_on d nodes es w n)
unfolding onto_members
one_above d nodes es w n m inside is =
    ap (λ (l : List Expr). onto_members d (beside d nodes l) w) (left_here es n (suc n) m (omega arith) (omega (arith, inside)) is)
    ∙ ap (λ (f : List Stroke → Build (List Stroke)). onto_members d (beside d nodes (drop (suc n) es)) w >>= f) (λ k ks. sym (member_is d nodes es w n m ks inside is) k)

members_above : (d : Parts) (nodes : List ℕ) (es : List Expr) (w : List ℕ) (n : ℕ) → n ≤ length es → onto_members d (beside d nodes es) w ≡ (onto_members d (beside d nodes (drop n es)) w >>= down (member_on d nodes es w) n)
unfolding down
members_above d nodes es w zero inside = sym (step_alone (onto_members d (beside d nodes es) w))
members_above d nodes es w (suc n) inside =
    members_above d nodes es w n (omega (arith, inside))
    ∙ ap (λ (b : Build (List Stroke)). b >>= down (member_on d nodes es w) n) (at_member es n refl (omega (arith, inside)))
    ∙ steps_through (onto_members d (beside d nodes (drop (suc n) es)) w) (member_on d nodes es w n) (down (member_on d nodes es w) n)
  where
    at_member : (l : List Expr) (k : ℕ) → l ≡ es → k < length l → onto_members d (beside d nodes (drop n es)) w ≡ (onto_members d (beside d nodes (drop (suc n) es)) w >>= member_on d nodes es w n)
    at_member [] k is lt = absurd (omega (arith, lt))
    at_member (m ∷ l) k is lt = one_above d nodes es w n (get_or es n m) (omega (arith, inside)) (there_is es n m (omega (arith, inside)))

none_left : (d : Parts) (nodes : List ℕ) (es : List Expr) (w : List ℕ) → onto_members d (beside d nodes (drop (length es) es)) w ≡ return []
unfolding onto_members
none_left d nodes es w = ap (λ (l : List Expr). onto_members d (beside d nodes l) w) (drop_all (length es) es (omega arith))

pub members_first : (net : List Numbered) (d : Parts) (nodes : List ℕ) (es : List Expr) (w : List ℕ) → IsLeft (onto_members d (beside d nodes es) w) net net (down (member_on d nodes es w) (length es) [])
members_first net d nodes es w =
    given [] (down (member_on d nodes es w) (length es))
    (left_as (onto_members d (beside d nodes es) w) (return [] >>= down (member_on d nodes es w) (length es))
    (members_above d nodes es w (length es) (omega arith) ∙ ap (λ (b : Build (List Stroke)). b >>= down (member_on d nodes es w) (length es)) (none_left d nodes es w))
    (all_left (onto_members d (beside d nodes es) w) net))

pub members_here : {all : Build (List Stroke)} {old now : List Numbered} (d : Parts) (nodes : List ℕ) (es : List Expr) (w rest : List ℕ) (at left below : ℕ) (m : Expr) (ks : List Stroke) → left ≡ at + 1 → left ≤ length es → m ≡ get_or es at m
    → below ≡ widths d (beside d nodes (drop left es)) → rest ≡ drop below w → IsLeft all old now (down (member_on d nodes es w) left ks)
    → IsLeft all old now (strokes d nodes m rest >>= (λ top. down (member_on d nodes es w) at (ks ++ top)))
unfolding down
members_here {all} {old} {now} d nodes es w rest at left below m ks step inside is wide behind found =
    let next : left ≡ suc at = omega (arith, step) in
    let here : drop (widths d (beside d nodes (drop (suc at) es))) w ≡ rest = sym (behind ∙ ap (λ (b : ℕ). drop b w) (wide ∙ ap (λ (n : ℕ). widths d (beside d nodes (drop n es))) next)) in
    left_as (strokes d nodes m rest >>= (λ top. return (ks ++ top) >>= down (member_on d nodes es w) at)) (strokes d nodes m rest >>= (λ top. down (member_on d nodes es w) at (ks ++ top)))
    (λ k. strokes d nodes m rest >>= (λ top. no_step (ks ++ top) (down (member_on d nodes es w) at) k))
    (inner (strokes d nodes m rest) (λ top. return (ks ++ top)) (down (member_on d nodes es w) at)
    (left_as (down (member_on d nodes es w) left ks) ((strokes d nodes m rest >>= (λ top. return (ks ++ top))) >>= down (member_on d nodes es w) at)
    (ap (λ (n : ℕ). down (member_on d nodes es w) n ks) next
    ∙ ap (λ (b : Build (List Stroke)). b >>= down (member_on d nodes es w) at) (member_is d nodes es w at m ks (omega (arith, step, inside)) is ∙ ap (λ (u : List ℕ). strokes d nodes m u >>= (λ top. return (ks ++ top))) here))
    found))

pub members_whole : {all : Build (List Stroke)} {old now : List Numbered} (d : Parts) (nodes : List ℕ) (es : List Expr) (w : List ℕ) (left : ℕ) (ks : List Stroke) → left ≤ 0 → IsLeft all old now (down (member_on d nodes es w) left ks) → IsLeft all old now (return ks)
unfolding down
members_whole {all} {old} {now} d nodes es w left ks none found = subst (λ (n : ℕ). IsLeft all old now (down (member_on d nodes es w) n ks)) (zero_is left none) found
  where
    zero_is : (n : ℕ) → n ≤ 0 → n ≡ zero
    zero_is n none = omega (arith, none)

-- ---- widths

pub wider : (d : Parts) (nodes : List ℕ) (es : List Expr) (at left below wide : ℕ) (m : Expr) → left ≡ at + 1 → left ≤ length es → m ≡ get_or es at m
    → below ≡ widths d (beside d nodes (drop left es)) → wide ≡ (shape_of d m).width → below + wide ≡ widths d (beside d nodes (drop at es))
unfolding widths
wider d nodes es at left below wide m step inside is before here =
    let more : widths d (beside d nodes (drop at es)) ≡ (shape_of d m).width + widths d (beside d nodes (drop left es)) = ap (λ (l : List Expr). widths d (beside d nodes l)) (left_here es at left m step inside is) in
    omega (arith, more, before, here)

pub no_width : (d : Parts) (nodes : List ℕ) (es : List Expr) → 0 ≡ widths d (beside d nodes (drop (length es) es))
unfolding widths
no_width d nodes es = ap (λ (l : List Expr). widths d (beside d nodes l)) (sym (drop_all (length es) es (omega arith)))
