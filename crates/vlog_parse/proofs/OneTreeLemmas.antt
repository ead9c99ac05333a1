-- One list of lexemes spells at most one list of modules.
use Rattle.std.proofs.Common.{◌≡◌, ◌≤◌, max, List, [], ◌∷◌, ◌++◌, length, sym, ap, ◌∙◌, subst, length-append, arith}
use Rattle.vlog_tree.specs.declared.module.Module.{Module}
use Rattle.vlog_tree.specs.Lexemes.{Lexeme}
use Rattle.vlog_tree.specs.Modules as t
use Rattle.vlog_tree.specs.Modules.{SpellsModule, SpellsModules}
use Rattle.vlog_tree.specs.Depth.{depth_of_module}
use Rattle.vlog_expr.proofs.Inversion.{Gave, gave}
use Rattle.vlog_parse.specs.Modules.{module_of}
use Rattle.vlog_parse.proofs.Given.{Laws}
use Rattle.vlog_parse.proofs.ModuleBegins.{module_read}

pub some_lexemes : (us : List Lexeme) (m : Module) → SpellsModule us m → 1 ≤ length us
some_lexemes us m (t.«module» word l semi end qs ps is w named pars prts ends items last parts at) = omega (arith, ap length parts)

pub no_first : (us vs ws : List Lexeme) (m : Module) → SpellsModule vs m → us ≡ vs ++ ws → us ≡ [] → ⊥
no_first us vs ws m s parts none = let some = some_lexemes vs m s in let n = ap length parts in let z = ap length none in absurd (omega (arith, length-append vs ws))

-- the first module of a list, and what stands behind it
pub same_first : Laws → (vs ws xs ys : List Lexeme) (m n : Module) → SpellsModule vs m → SpellsModule xs n → vs ++ ws ≡ xs ++ ys → Gave m ws n ys
same_first laws vs ws xs ys m n s t e =
    let room = max 1 (max (depth_of_module m) (depth_of_module n)) in
    let one = module_read laws room (omega arith) vs ws m s (omega arith) in
    let two = module_read laws room (omega arith) xs ys n t (omega arith) in
    gave m ws n ys (sym one ∙ (ap (module_of room) e ∙ two))

pub one_tree : Laws → (us : List Lexeme) (ms ns : List Module) → SpellsModules us ms → SpellsModules us ns → ms ≡ ns
one_tree laws us ms ns (t.none nil all) (t.none nil' all') = all ∙ sym all'
one_tree laws us ms ns (t.none nil all) (t.more xs ys n others s o parts all') = absurd (no_first us xs ys n s parts nil)
one_tree laws us ms ns (t.more xs ys m others s o parts all) (t.none nil all') = absurd (no_first us xs ys m s parts nil)
one_tree laws us ms ns (t.more vs ws m others s o parts all) (t.more xs ys n others' s' o' parts' all') =
    let g = same_first laws vs ws xs ys m n s s' (sym parts ∙ parts') in
    let rest = one_tree laws ws others others' o (subst (λ z. SpellsModules z others') (sym g.left) o') in
    all ∙ (ap (λ z. z ∷ others) (sym g.same) ∙ (ap (λ z. n ∷ z) rest ∙ sym all'))
