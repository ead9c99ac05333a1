-- Members of a target, from the last one up.
use Rattle.std.proofs.Common.{◌≡◌, ℕ, ◌+◌, ◌<◌, ◌≤◌, List, [], ◌∷◌, ◌++◌, length, map, drop, get_or, refl, sym, ap, ◌∙◌, arith, append-nil, append_assoc}
use Rattle.std.proofs.lemmas.List.{drop_all, drop_more}
use Rattle.vlog_tree.specs.declared.expr.Expr.{Expr}
use Rattle.rdc_tern.specs.declared.value.Tern.{Tern}
use Rattle.design_form.specs.declared.parts.Parts.{Parts}
use Rattle.design_sizes.specs.Sizes.{shape_of}
use Rattle.proc_values.specs.declared.stroke.Stroke.{Stroke}
use Rattle.proc_values.specs.Targets.{Written, strokes, onto_members, widths}

abbrev pub beside : Parts → List Tern → List Expr → List (Expr × Written)
beside d now es = map (λ e. (e, strokes d now e)) es

left_here : (es : List Expr) (at left : ℕ) (m : Expr) → left ≡ at + 1 → left ≤ length es → m ≡ get_or es at m → drop at es ≡ m ∷ drop left es
left_here es at left m step inside is = drop_more es at m (omega (arith, step, inside)) ∙ (λ k. sym is k ∷ drop (sym step k) es)

pub member_more : (d : Parts) (now : List Tern) (es : List Expr) (w rest : List Tern) (at left below : ℕ) (m : Expr) (before ks more : List Stroke) → left ≡ at + 1 → left ≤ length es → m ≡ get_or es at m
    → ks ≡ before ++ onto_members d (beside d now (drop left es)) w → below ≡ widths d (beside d now (drop left es)) → rest ≡ drop below w → more ≡ ks ++ strokes d now m rest
    → more ≡ before ++ onto_members d (beside d now (drop at es)) w
unfolding onto_members
member_more d now es w rest at left below m before ks more step inside is written wide behind put =
    put ∙ (λ k. written k ++ strokes d now m ((behind ∙ ap (λ (b : ℕ). drop b w) wide) k))
    ∙ append_assoc before (onto_members d (beside d now (drop left es)) w) (strokes d now m (drop (widths d (beside d now (drop left es))) w))
    ∙ ap (λ (l : List Expr). before ++ onto_members d (beside d now l) w) (sym (left_here es at left m step inside is))

pub wider : (d : Parts) (now : List Tern) (es : List Expr) (at left below wide : ℕ) (m : Expr) → left ≡ at + 1 → left ≤ length es → m ≡ get_or es at m
    → below ≡ widths d (beside d now (drop left es)) → wide ≡ (shape_of d m).width → below + wide ≡ widths d (beside d now (drop at es))
unfolding widths
wider d now es at left below wide m step inside is before here =
    let more : widths d (beside d now (drop at es)) ≡ (shape_of d m).width + widths d (beside d now (drop left es)) = ap (λ (l : List Expr). widths d (beside d now l)) (left_here es at left m step inside is) in
    omega (arith, more, before, here)

pub no_members : (d : Parts) (now : List Tern) (es : List Expr) (w : List Tern) (ks : List Stroke) → ks ≡ ks ++ onto_members d (beside d now (drop (length es) es)) w
unfolding onto_members
no_members d now es w ks = sym (append-nil ks) ∙ ap (λ (l : List Expr). ks ++ onto_members d (beside d now l) w) (sym (drop_all (length es) es (omega arith)))

pub no_width : (d : Parts) (now : List Tern) (es : List Expr) → 0 ≡ widths d (beside d now (drop (length es) es))
unfolding widths
no_width d now es = ap (λ (l : List Expr). widths d (beside d now l)) (sym (drop_all (length es) es (omega arith)))
