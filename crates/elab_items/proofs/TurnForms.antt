-- The turns of a loop, by what the next one gives.
use Rattle.std.proofs.Common.{◌≡◌, ℕ, suc, List, Option, Some, None, Ok, Err, inl, inr, ◌≤◌, IfSome, sym, ap, subst, ◌∙◌}
use Rattle.rdc_outside.specs.declared.source.Place.{Place}
use Rattle.vlog_tree.specs.declared.ident.Ident.{Ident}
use Rattle.vlog_tree.specs.declared.stmt.Loop.{Loop}
use Rattle.vlog_const.specs.declared.answer.ConstValue.{ConstValue}
use Rattle.elab_names.specs.declared.fault.ElabFault.{ElabFault}
use Rattle.elab_names.specs.declared.fault.ElabFault.TheVariants.{GenerateLimit}
use Rattle.elab_names.specs.Answers.{Or_fault, and_then}
use Rattle.elab_scopes.specs.Threads.{Stops}
use Rattle.elab_items.specs.Plans.{Plan}
use Rattle.elab_items.specs.Items.{Body, followed, follows, once, turns_from}

turned : (n m : ℕ) (place : Place) (prefix : List ℕ) (h : Loop) (label : Ident) (body : Body) (v : ConstValue) (p : Plan) → n ≡ suc m
    → turns_from n place prefix h label body v p ≡ and_then (once place prefix h label body v p) (followed (turns_from m place prefix h label body))
unfolding turns_from
turned n m place prefix h label body v p is = ap (λ k. turns_from k place prefix h label body v p) is

-- a turn that was made is one less
pub turns-made : (n m : ℕ) (place : Place) (prefix : List ℕ) (h : Loop) (label : Ident) (body : Body) (v w : ConstValue) (o : Option ConstValue) (p q : Plan) → n ≡ suc m → o ≡ Some w
    → once place prefix h label body v p ≡ Ok (record { next = o; plan = q }) → turns_from n place prefix h label body v p ≡ turns_from m place prefix h label body w q
unfolding and_then follows
turns-made n m place prefix h label body v w o p q is some done =
    turned n m place prefix h label body v p is ∙ ap (λ r. and_then r (followed (turns_from m place prefix h label body))) done
    ∙ ap (follows (turns_from m place prefix h label body) q) some

-- behind the last one is the end
pub turns-ended : (n m : ℕ) (place : Place) (prefix : List ℕ) (h : Loop) (label : Ident) (body : Body) (v : ConstValue) (o : Option ConstValue) (p q : Plan) → n ≡ suc m → o ≡ None
    → once place prefix h label body v p ≡ Ok (record { next = o; plan = q }) → turns_from n place prefix h label body v p ≡ Ok q
unfolding and_then follows
turns-ended n m place prefix h label body v o p q is none done =
    turned n m place prefix h label body v p is ∙ ap (λ r. and_then r (followed (turns_from m place prefix h label body))) done
    ∙ ap (follows (turns_from m place prefix h label body) q) none

-- a value that there is has its bound
pub bounded : (o : Option ConstValue) (w : ConstValue) → o ≡ Some w → IfSome o (λ v. v.width ≤ 128) → w.width ≤ 128
bounded o w some bound = subst (λ (q : Option ConstValue). IfSome q (λ v. v.width ≤ 128)) some bound

-- where it stops, so does the loop
pub turns-stopped : (n m : ℕ) (place : Place) (prefix : List ℕ) (h : Loop) (label : Ident) (body : Body) (v : ConstValue) (p : Plan) (fault : ElabFault) (r : Or_fault Plan) → n ≡ suc m
    → turns_from n place prefix h label body v p ≡ r → Stops fault (once place prefix h label body v p) → Stops fault r
unfolding and_then
turns-stopped n m place prefix h label body v p fault r is before (inl memory) = inl memory
turns-stopped n m place prefix h label body v p fault r is before (inr bad) =
    inr (sym before ∙ (turned n m place prefix h label body v p is ∙ ap (λ t. and_then t (followed (turns_from m place prefix h label body))) bad))

-- where none is left, there is one too many
pub turns-none : (n : ℕ) (place : Place) (prefix : List ℕ) (h : Loop) (label : Ident) (body : Body) (v : ConstValue) (p : Plan) → n ≡ 0
    → turns_from n place prefix h label body v p ≡ Err (GenerateLimit place)
unfolding turns_from
turns-none n place prefix h label body v p is = ap (λ k. turns_from k place prefix h label body v p) is
