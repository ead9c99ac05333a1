-- From a reading of a chunk to what is said of lists of modules.
use Rattle.std.proofs.Common.{◌≡◌, ◌≤◌, max, true, false, List, [], ◌∷◌, ◌++◌, Some, None, Result, Err, refl, sym, ap, ◌∙◌, subst, append-nil, append_assoc, arith}
use Rattle.std.specs.Prelude.{codes}
use Rattle.vlog_tree.specs.declared.module.Module.{Module}
use Rattle.vlog_tree.specs.Lexemes.{Lexeme, is_word, IsWord}
use Rattle.vlog_tree.specs.Modules as t
use Rattle.vlog_tree.specs.Modules.{SpellsModule, SpellsModules}
use Rattle.vlog_tree.specs.Depth.{deepest, depth_of_module, depth_of_modules}
use Rattle.vlog_expr.specs.declared.stuck.Stuck.{Stuck}
use Rattle.vlog_expr.specs.declared.stuck.Stuck.TheVariants.{Wrong, Deep}
use Rattle.vlog_expr.specs.Reading.{first}
use Rattle.vlog_expr.proofs.Readers.{Steps, wants_room}
use Rattle.vlog_parse.specs.Modules.{module_of}
use Rattle.vlog_parse.specs.Begins.{NoneBegins, NoShallowBegins}
use Rattle.vlog_parse.proofs.Given.{laws}
use Rattle.vlog_parse.proofs.SteadyItems.{steady_module}
use Rattle.vlog_parse.proofs.ModuleBegins.{module_read, stopped}
use Rattle.vlog_parse.proofs.OneTreeLemmas.{same_first, no_first}
use Rattle.vlog_parse.proofs.FreeModules.{one_word}
use Rattle.vlog_parse.proofs.CutLemmas.{AtModule, ends, goes, Cut, Seam, short, long, seam, no_cross}

-- a module and more, at which a reading stops
record StopsOn (why : Stuck) (xs : List Lexeme) : Type 0 where
  pub more : List Lexeme
  pub left : List Lexeme
  pub is : module_of 255 (xs ++ more) ≡ (Err why, left)

pub stepped : (ls : List Lexeme) (v : Result Module Stuck) (left : List Lexeme) → module_of 255 ls ≡ (v, left) → Steps (module_of 255) ls v left
stepped ls v left h = subst (λ o. Steps (module_of 255) ls o.0 o.1) h ((steady_module 255 255 (omega arith) laws).local ls)

same_lexeme : (vs ws zs : List Lexeme) (b z : Lexeme) → first vs ≡ Some b → vs ≡ z ∷ zs → z ≡ b
unfolding first
same_lexeme vs ws zs b z alike is = let e = sym (ap first is) ∙ alike in cc

on_seam : (xs ys pre vs inside : List Lexeme) (head b : Lexeme) (why : Stuck) (m : Module) → SpellsModule xs m → pre ≡ head ∷ inside → IsWord (codes "module") b → first vs ≡ Some b
    → module_of 255 pre ≡ (Err why, []) → Seam xs ys pre vs → StopsOn why xs
on_seam xs ys pre vs inside head b why m s p is alike h (short zs a q) = record { more = zs; left = []; is = ap (module_of 255) (sym a) ∙ h }
on_seam xs ys pre vs inside head b why m s p is alike h (long z zs a q) =
    absurd (no_cross xs pre zs inside head z m s p a (subst (λ l. IsWord (codes "module") l) (sym (same_lexeme vs [] (zs ++ ys) b z alike q)) is))

-- where a reading of a chunk stops at the chunk's end
at_end : (chunk rest xs ys vs : List Lexeme) (why : Stuck) (m : Module) (head : Lexeme) (inside : List Lexeme) → chunk ≡ head ∷ inside → AtModule rest → module_of 255 chunk ≡ (Err why, [])
    → SpellsModule xs m → xs ++ ys ≡ chunk ++ vs → first vs ≡ first rest → StopsOn why xs
unfolding first
at_end chunk rest xs ys vs why m head inside p (ends none) h s e alike =
    record { more = ys; left = vs; is = ap (module_of 255) e ∙ stopped laws 255 chunk [] vs why (ap (module_of 255) (append-nil chunk) ∙ h) (alike ∙ ap first none) }
at_end chunk rest xs ys vs why m head inside p (goes b bs is worded) h s e alike =
    on_seam xs ys chunk vs inside head b why m s p worded (alike ∙ ap first is) h (seam xs ys chunk vs e)

-- where a reading of a chunk stops, it stops on each module that begins what begins so
stops_on : (ls chunk rest pre left xs ys vs : List Lexeme) (why : Stuck) (m : Module) → Cut ls chunk rest → chunk ≡ pre ++ left → module_of 255 chunk ≡ (Err why, left)
    → SpellsModule xs m → xs ++ ys ≡ pre ++ vs → first vs ≡ first (left ++ rest) → StopsOn why xs
unfolding first
stops_on ls chunk rest pre [] xs ys vs why m c parts h s e alike =
    let same : chunk ≡ pre = parts ∙ append-nil pre in
    at_end chunk rest xs ys vs why m c.head c.inside c.is c.at h s (e ∙ ap (λ z. z ++ vs) (sym same)) alike
stops_on ls chunk rest pre (l ∷ left) xs ys vs why m c parts h s e alike =
    record { more = ys; left = vs; is = ap (module_of 255) e ∙ stopped laws 255 pre (l ∷ left) vs why (ap (module_of 255) (sym parts) ∙ h) alike }

none_wrong : (xs : List Lexeme) (m : Module) → StopsOn Wrong xs → SpellsModule xs m → ⊥
none_wrong xs m o s =
    let most = max 255 (depth_of_module m) in
    let there = (steady_module 255 most (omega arith) laws).stays (xs ++ o.more) (ap (λ z. wants_room z.0) o.is) ∙ o.is in
    let read = module_read laws most (omega arith) xs o.more m s (omega arith) in
    let never = ap (λ z. z.0) (sym there ∙ read) in cc

none_deep : (xs : List Lexeme) (m : Module) → StopsOn Deep xs → SpellsModule xs m → depth_of_module m ≤ 255 → ⊥
none_deep xs m o s low =
    let read = module_read laws 255 (omega arith) xs o.more m s low in
    let never = ap (λ z. z.0) (sym o.is ∙ read) in cc

-- a chunk isn't empty
not_empty : (ls chunk rest pre left vs : List Lexeme) → Cut ls chunk rest → chunk ≡ pre ++ left → pre ++ vs ≡ [] → first vs ≡ first (left ++ rest) → ⊥
unfolding first
not_empty ls chunk rest [] left vs c parts none alike =
    let never : None ≡ Some c.head = ap first (sym none) ∙ (alike ∙ ap (λ z. first (z ++ rest)) (sym parts ∙ c.is)) in cc
not_empty ls chunk rest (p ∷ pre) left vs c parts none alike = cc

pub wrong_none : (ls chunk rest pre left : List Lexeme) → Cut ls chunk rest → chunk ≡ pre ++ left → module_of 255 chunk ≡ (Err Wrong, left) → NoneBegins pre (left ++ rest)
wrong_none ls chunk rest pre left c parts h vs ms (t.none nil all) alike = not_empty ls chunk rest pre left vs c parts nil alike
wrong_none ls chunk rest pre left c parts h vs ms (t.more xs ys m others s o e all) alike = none_wrong xs m (stops_on ls chunk rest pre left xs ys vs Wrong m c parts h s (sym e) alike) s

pub deep_none : (ls chunk rest pre left : List Lexeme) → Cut ls chunk rest → chunk ≡ pre ++ left → module_of 255 chunk ≡ (Err Deep, left) → NoShallowBegins pre (left ++ rest)
unfolding depth_of_modules deepest
deep_none ls chunk rest pre left c parts h vs ms (t.none nil all) low alike = not_empty ls chunk rest pre left vs c parts nil alike
deep_none ls chunk rest pre left c parts h vs ms (t.more xs ys m others s o e all) low alike =
    let deep = ap depth_of_modules all in
    none_deep xs m (stops_on ls chunk rest pre left xs ys vs Deep m c parts h s (sym e) alike) s (omega arith)

-- what modules are spelled by is taken by them, whatever stands behind
pub record Past (vs : List Lexeme) (ms ns : List Module) : Type 0 where
  pub others : List Module
  pub spelled : SpellsModules vs others
  pub all : ns ≡ ms ++ others

pub past : (us vs : List Lexeme) (ms ns : List Module) → SpellsModules us ms → SpellsModules (us ++ vs) ns → Past vs ms ns
past us vs ms ns (t.none nil all) s =
    record { others = ns; spelled = subst (λ z. SpellsModules (z ++ vs) ns) nil s; all = ap (λ z. z ++ ns) (sym all) }
past us vs ms ns (t.more xs ys m others s o parts all) (t.none nil all') = absurd (no_first (us ++ vs) xs (ys ++ vs) m s (ap (λ z. z ++ vs) parts ∙ append_assoc xs ys vs) nil)
past us vs ms ns (t.more xs ys m others s o parts all) (t.more xs' ys' n others' s' o' parts' all') =
    let e : xs ++ (ys ++ vs) ≡ xs' ++ ys' = sym (append_assoc xs ys vs) ∙ (ap (λ z. z ++ vs) (sym parts) ∙ parts') in
    let g = same_first laws xs (ys ++ vs) xs' ys' m n s s' e in
    let p = past ys vs others others' o (subst (λ z. SpellsModules z others') (sym g.left) o') in
    record { others = p.others; spelled = p.spelled; all = all' ∙ (ap (λ z. z ∷ others') g.same ∙ (ap (λ z. m ∷ z) p.all ∙ ap (λ z. z ++ p.others) (sym all))) }

-- behind a module stands the word `module`, or nothing
no_module_at : (vs rest : List Lexeme) (l : Lexeme) (ms : List Module) → SpellsModules vs ms → first vs ≡ Some l → is_word (codes "module") l ≡ false → ⊥
unfolding first
no_module_at vs rest l ms (t.none nil all) alike other = let never = ap first (sym nil) ∙ alike in cc
no_module_at vs rest l ms (t.more xs ys m others s o e all) alike other =
    let w = one_word s in
    let same : Some w.head ≡ Some l = ap first (sym (e ∙ ap (λ z. z ++ ys) w.is)) ∙ alike in
    let is = w.worded in
    let never : true ≡ false = sym is ∙ (ap (is_word (codes "module")) (cc) ∙ other) in cc

one_list : (us : List Lexeme) (m : Module) → SpellsModule us m → SpellsModules us (m ∷ [])
one_list us m s = t.more us [] m [] s (t.none refl refl) (sym (append-nil us)) refl

pub behind_none : (us rest : List Lexeme) (l : Lexeme) (m : Module) → SpellsModule us m → is_word (codes "module") l ≡ false → NoneBegins us (l ∷ rest)
unfolding first
behind_none us rest l m s other vs ns t alike =
    let p = past us vs (m ∷ []) ns (one_list us m s) t in
    no_module_at vs rest l p.others p.spelled alike other
