-- What the readers of processes and of generate choices take. An item in them is a parameter.
use Rattle.std.proofs.Common.{◌≡◌, ℕ, suc, ◌≤◌, Bool, true, false, List, [], ◌∷◌, ◌++◌, Option, Some, None, refl, sym, ap, ◌∙◌, subst, append-nil, arith}
use Rattle.std.specs.Prelude.{codes}
use Rattle.vlog_tree.specs.declared.ident.Ident.{Ident}
use Rattle.vlog_tree.specs.declared.expr.Expr.{Expr}
use Rattle.vlog_tree.specs.declared.item.Block.{Block}
use Rattle.vlog_tree.specs.declared.item.Item.{Item}
use Rattle.vlog_tree.specs.declared.item.Item.TheVariants as i
use Rattle.vlog_tree.specs.Lexemes.{Lexeme, IsMark, IsWord, start}
use Rattle.vlog_tree.specs.Expressions.{SpellsPlain}
use Rattle.vlog_tree.specs.Statements.{SpellsStmt, SpellsControl}
use Rattle.vlog_tree.specs.Items as g
use Rattle.vlog_tree.specs.Items.{SpellsItem, SpellsItems, SpellsBlock}
use Rattle.vlog_tree.specs.Depth.{depth, deepest_of, depth_of_label, depth_of_control, depth_of_stmt, depth_of_item}
use Rattle.vlog_expr.specs.Reading.{Reader, place_if, sees_word}
use Rattle.vlog_expr.proofs.SpelledLemmas.{sized}
use Rattle.vlog_parse.specs.Items.{always, otherwise, choice}
use Rattle.vlog_parse.proofs.Exact.{Spelling, front, Exact, exact_as, Row, ◌>>=◌, Done, exact_pure, Lead, exact_mark, exact_word, exact_peek, Maybe, with, without, exact_optional}
use Rattle.vlog_parse.proofs.Commas.{Fits, Before}
use Rattle.vlog_parse.proofs.Looks.{Ends, placed}
use Rattle.vlog_parse.proofs.Given.{Opens, Laws, exact_expr}
use Rattle.vlog_parse.proofs.ItemDepths.{block_depth, block_depth_if, depth-Always, depth-If}
use Rattle.vlog_parse.proofs.BlocksExact.{Inner, Blocks, exact_block}

abbrev pub AlwaysC : ℕ → Spelling Item
AlwaysC room us x next = Lead (IsWord (codes "always")) (Lead (IsMark (codes "@")) (Row (Fits SpellsControl depth_of_control room) (λ c. Row (Opens SpellsStmt depth_of_stmt room) (λ s. Done (i.Always (place_if (front us next)) c s))))) us x next

pub exact_always : Laws → (room : ℕ) → Exact (always room) (Inner room) (AlwaysC room)
unfolding always
exact_always laws room = exact_as (exact_peek place_if (λ place. exact_word (codes "always") (exact_mark (codes "@") (laws.exact_control room >>= (λ c. laws.exact_stmt room >>= (λ s. exact_pure (i.Always place c s)))))))
    (λ us x next h.
    let a = h.behind in let b = a.behind in let c = b.behind in let d = c.behind in let s = c.here in
    let is : x ≡ i.Always (start us) b.answer c.answer = d.is ∙ ap (λ z. i.Always z b.answer c.answer) (placed us h.lexeme h.others next h.is) in
    let one = b.here.shallow in let two = s.shallow in let deep = ap depth_of_item is ∙ depth-Always (start us) b.answer c.answer in
    record {
      open_if = s.open_if;
      spelled = g.always h.lexeme a.lexeme b.one c.one b.answer c.answer h.holds a.holds b.here.spelled s.spelled (cc (append-nil c.one)) is;
      shallow = omega arith;
      closed = λ o. ap (λ z. sees_word (codes "else") (front z next)) (sym d.none) ∙ s.closed o;
    })
    (λ us x next d. d)

label_low : (o : Option Ident) → depth_of_label o ≤ 1
unfolding depth_of_label
label_low None = omega arith
label_low (Some x) = omega arith

pub block_low : (b : Block (List Item)) (room : ℕ) → 1 ≤ room → deepest_of depth_of_item b.items ≤ room → block_depth b ≤ room
unfolding block_depth
block_low b room some low = let label = label_low b.name in omega arith

pub block_high : (b : Block (List Item)) (room : ℕ) → block_depth b ≤ room → deepest_of depth_of_item b.items ≤ room
unfolding block_depth
block_high b room low = omega arith

not_open : (b : Bool) → (b ≡ true → ⊥) → b ≡ false
not_open false h = refl
not_open true h = absurd (h refl)

else_seen : (us : List Lexeme) (l : Lexeme) (ls : List Lexeme) (next : Option Lexeme) → us ≡ l ∷ ls → IsWord (codes "else") l → sees_word (codes "else") (front us next) ≡ false → ⊥
unfolding sees_word
else_seen us l ls next parts is unseen = let never = sym is ∙ (ap (λ z. sees_word (codes "else") (front z next)) (sym parts) ∙ unseen) in cc

module _ (room : ℕ) (inner : Reader Item) (e : Exact inner (Inner room) (Inner room)) where
  abbrev pub Otherwise : Spelling (Block (List Item))
  Otherwise = Lead (IsWord (codes "else")) (Blocks room inner e)

  abbrev Chosen : Spelling Expr → Spelling Item
  Chosen S us x next = Lead (IsWord (codes "if")) (Lead (IsMark (codes "(")) (Row S (λ test. Lead (IsMark (codes ")")) (Row (Blocks room inner e) (λ y.
      Row (Maybe (sees_word (codes "else")) Otherwise) (λ n. Done (i.If (place_if (front us next)) test y n))))))) us x next

  abbrev pub ChoiceC : Spelling Item
  ChoiceC = Chosen (Before Ends (Fits SpellsPlain depth room))

  choice_to : (us : List Lexeme) (x : Item) (next : Option Lexeme) → Chosen (Fits SpellsPlain depth room) us x next → Inner (suc room) us x next
  unfolding block_depth_if
  choice_to us x next h =
      let a = h.behind in let r = a.behind in let b = r.behind in let y = b.behind in let m = y.behind in let d = m.behind in let s = y.here in
      let low = r.here.shallow in
      let some : 1 ≤ room = let z = sized r.here.spelled.spells in let one = z.some in omega arith in
      let inside = block_low y.answer room some s.shallow in
      elim m.here [
        | without nil n-is unseen ↦ (
            let two : y.two ≡ [] = m.is ∙ (ap (λ z. z ++ m.two) nil ∙ d.none) in
            let is : x ≡ i.If (start us) r.answer y.answer None = d.is ∙ (ap (λ z. i.If (place_if (front us next)) r.answer y.answer z) n-is ∙ ap (λ z. i.If z r.answer y.answer None) (placed us h.lexeme h.others next h.is)) in
            let deep = ap depth_of_item is ∙ depth-If (start us) r.answer y.answer None in
            record {
              open_if = true;
              spelled = g.if_alone h.lexeme a.lexeme b.lexeme r.one y.one s.open_if r.answer y.answer h.holds a.holds r.here.spelled b.holds s.spelled refl (cc (append-nil y.one)) is;
              shallow = omega arith;
              closed = λ o. ap (λ z. sees_word (codes "else") (front z next)) (sym d.none) ∙ unseen;
            })
        | with n seen l n-is ↦ (
            let t = l.behind in
            let outside = block_low n room some t.shallow in
            let two : y.two ≡ l.lexeme ∷ (l.others ++ m.two) = m.is ∙ ap (λ z. z ++ m.two) l.is in
            let tail : l.others ++ m.two ≡ l.others = ap (λ z. l.others ++ z) d.none ∙ append-nil l.others in
            let shut : s.open_if ≡ false = not_open s.open_if (λ o. else_seen y.two l.lexeme (l.others ++ m.two) next two l.holds (s.closed o)) in
            let is : x ≡ i.If (start us) r.answer y.answer (Some n) = d.is ∙ (ap (λ z. i.If (place_if (front us next)) r.answer y.answer z) n-is ∙ ap (λ z. i.If z r.answer y.answer (Some n)) (placed us h.lexeme h.others next h.is)) in
            let deep = ap depth_of_item is ∙ depth-If (start us) r.answer y.answer (Some n) in
            record {
              open_if = t.open_if;
              spelled = g.if_else h.lexeme a.lexeme b.lexeme l.lexeme r.one y.one l.others r.answer y.answer n h.holds a.holds r.here.spelled b.holds
                  (subst (λ z. SpellsBlock z y.one y.answer) shut s.spelled) l.holds t.spelled (cc) is;
              shallow = omega arith;
              closed = λ o. ap (λ z. sees_word (codes "else") (front z next)) (sym d.none) ∙ t.closed o;
            })
      ]

  pub exact_choice : Exact (choice room inner) (Inner (suc room)) ChoiceC
  unfolding choice otherwise
  exact_choice = exact_as (exact_peek place_if (λ place. exact_word (codes "if") (exact_mark (codes "(") (exact_expr room >>= (λ test. exact_mark (codes ")") (exact_block room inner e >>= (λ y.
      exact_optional (sees_word (codes "else")) (exact_word (codes "else") (exact_block room inner e)) >>= (λ n. exact_pure (i.If place test y n)))))))))
      choice_to (λ us x next d. d)
