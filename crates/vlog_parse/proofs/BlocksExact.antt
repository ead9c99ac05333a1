-- What the readers of blocks and generate constructs take. An item in them is a parameter.
use Rattle.std.proofs.Common.{◌≡◌, ℕ, suc, ◌≤◌, Bool, true, false, inl, inr, List, [], ◌∷◌, ◌++◌, length, Option, None, refl, sym, ap, ◌∙◌, subst, append_assoc, append-nil, arith}
use Rattle.std.specs.Prelude.{codes}
use Rattle.std.specs.Str.{bytes_eq}
use Rattle.vlog_tree.specs.declared.ident.Ident.{Ident}
use Rattle.vlog_tree.specs.declared.item.Block.{Block}
use Rattle.vlog_tree.specs.declared.item.Item.{Item}
use Rattle.vlog_tree.specs.declared.item.Item.TheVariants as i
use Rattle.vlog_tree.specs.Lexemes.{Lexeme, IsMark, IsWord, start}
use Rattle.vlog_tree.specs.Names.{IsIdent, name_in}
use Rattle.vlog_tree.specs.Reserved.{is_reserved, reserved_with}
use Rattle.vlog_tree.specs.Lists.{SpellsCommas, SpellsOptional, SpellsIdent, SpellsLabel}
use Rattle.vlog_tree.specs.Lists as l
use Rattle.vlog_tree.specs.Statements.{SpellsLoop}
use Rattle.vlog_tree.specs.Items as g
use Rattle.vlog_tree.specs.Items.{SpellsItem, SpellsItems, SpellsBlock}
use Rattle.vlog_tree.specs.Depth.{deepest_of, depth_of_loop, depth_of_item}
use Rattle.vlog_expr.specs.Reading.{Reader, place_if, sees, sees_word}
use Rattle.vlog_parse.specs.Lists.{optional, until}
use Rattle.vlog_parse.specs.Parts.{is_name}
use Rattle.vlog_parse.specs.Items.{is_nothing, head_in, declaration_in, construct_in, gate_in, label, generate, turned, repeated, group, nothing, short, block}
use Rattle.vlog_parse.proofs.Exact.{Spelling, front, Exact, exact_as, Row, ◌>>=◌, Done, exact_pure, Lead, exact_mark, exact_word, exact_name, exact_peek, Either, exact_if, lead, call, done, of_parts, exact_said}
use Rattle.vlog_parse.proofs.Commas.{Fits, Before, Until, ends, goes, exact_until, deepest_one, deepest_none, exact_option, exact_before, fit, before}
use Rattle.vlog_parse.proofs.Looks.{placed, other_word, word_mark, mark_word}
use Rattle.vlog_parse.proofs.Given.{Opens, Laws}
use Rattle.vlog_parse.proofs.ItemDepths.{depth-Generate, depth-For}
use Rattle.vlog_parse.proofs.ItemBegins.{Begin, item_begins, begin_no_word, begin_no_mark}

abbrev pub Inner : ℕ → Spelling Item
Inner room = Opens SpellsItem depth_of_item room

-- ":" id
exact_label : Exact label (Fits SpellsLabel (λ _. 0) 0) (Fits SpellsLabel (λ _. 0) 0)
unfolding label
exact_label = exact_said (exact_mark (codes ":") exact_name)
    (λ us x next h. let a = h.behind in let d = a.behind in fit (l.label h.lexeme a.lexeme h.holds (subst (IsIdent a.lexeme) (sym d.is) a.holds) (cc)) (omega arith))
    (λ us x next f. elim f.spelled [ l.label colon m colons is parts ↦ of_parts parts (lead colons (call x is done)) ])

label_opens : (us : List Lexeme) (x : Ident) (next : Option Lexeme) → SpellsLabel us x → sees (codes ":") (front us next) ≡ true
unfolding sees
label_opens us x next (l.label colon m colons is parts) = ap (λ z. sees (codes ":") (front z next)) parts ∙ colons

-- [ ":" id ]
exact_maybe_label : Exact (optional (sees (codes ":")) label) (Fits (SpellsOptional SpellsLabel) (λ _. 0) 0) (Before (λ o. sees (codes ":") o ≡ false) (Fits (SpellsOptional SpellsLabel) (λ _. 0) 0))
exact_maybe_label = exact_option SpellsLabel (λ _. 0) (λ _. 0) 0 (sees (codes ":")) (λ o. Unit {0}) (λ o. sees (codes ":") o ≡ false) refl (λ x. refl) label_opens (λ o m. tt) (λ o m. m) (exact_before exact_label)

-- items and the word behind them
pub record Items (w : List ℕ) (room : ℕ) (us : List Lexeme) (xs : List Item) (next : Option Lexeme) : Type 0 where
  pub inside : List Lexeme
  pub end : Lexeme
  pub parts : us ≡ inside ++ end ∷ []
  pub spelled : SpellsItems inside xs
  pub ends : IsWord w end
  pub shallow : deepest_of depth_of_item xs ≤ room

items_to : (w : List ℕ) (room : ℕ) {us : List Lexeme} {xs : List Item} {next : Option Lexeme} → Until w (Inner room) us xs next → Items w room us xs next
items_to w room (ends m is parts all) =
    let deep = ap (deepest_of depth_of_item) all ∙ deepest_none depth_of_item in
    record { inside = []; end = m; parts = parts; spelled = g.no_items refl all; ends = is; shallow = omega arith }
items_to w room (goes is js x ys unseen s o parts all) =
    let r = items_to w room o in
    let deep = ap (deepest_of depth_of_item) all ∙ deepest_one depth_of_item x ys in let one = s.shallow in let rest = r.shallow in
    record { inside = is ++ r.inside; end = r.end; parts = parts ∙ (ap (λ z. is ++ z) r.parts ∙ sym (append_assoc is r.inside (r.end ∷ []))); spelled = g.more s.open_if is r.inside x ys s.spelled r.spelled refl all; ends = r.ends; shallow = omega arith }

-- the word is no item's first one, and not `else`
pub record Apart (w : List ℕ) : Type 0 where
  pub apart : is_nothing (head_in w) ≡ true
  pub no_else : bytes_eq w (codes "else") ≡ false

-- what stands behind an item in a list is no `else`
no_else_behind : (js : List Lexeme) (ys : List Item) (w : List ℕ) (end : Lexeme) (next : Option Lexeme) → SpellsItems js ys → Apart w → IsWord w end → sees_word (codes "else") (front (js ++ end ∷ []) next) ≡ false
unfolding head_in declaration_in construct_in gate_in is_name name_in is_reserved reserved_with
no_else_behind js ys w end next (g.no_items nil all) a is = ap (λ z. sees_word (codes "else") (front (z ++ end ∷ []) next)) nil ∙ other_word w (codes "else") end is a.no_else
no_else_behind js ys w end next (g.more open_if is ks x zs item rest parts all) a last =
    let b = item_begins is x item in
    let c : Begin (js ++ end ∷ []) = record { lexeme = b.lexeme; others = (b.others ++ ks) ++ end ∷ []; is = ap (λ z. z ++ end ∷ []) (parts ∙ ap (λ z. z ++ ks) b.is); head = b.head } in
    begin_no_word (codes "else") next c refl

items_from : (w : List ℕ) (room : ℕ) (next : Option Lexeme) (end : Lexeme) → Apart w → IsWord w end → {us : List Lexeme} {xs : List Item} → SpellsItems us xs → deepest_of depth_of_item xs ≤ room → Until w (Inner room) (us ++ end ∷ []) xs next
items_from w room next end a is (g.no_items nil all) low = ends end is (ap (λ z. z ++ end ∷ []) nil) all
items_from w room next end a is (g.more open_if ks js x ys item rest parts all) low =
    let deep = ap (deepest_of depth_of_item) all ∙ deepest_one depth_of_item x ys in
    let b = item_begins ks x item in
    let c : Begin (ks ++ (js ++ end ∷ [])) = record { lexeme = b.lexeme; others = b.others ++ (js ++ end ∷ []); is = ap (λ z. z ++ (js ++ end ∷ [])) b.is; head = b.head } in
    goes ks (js ++ end ∷ []) x ys (begin_no_word w next c a.apart) (record { open_if = open_if; spelled = item; shallow = omega arith; closed = λ o. no_else_behind js ys w end next rest a is })
    (items_from w room next end a is rest (omega arith)) (ap (λ z. z ++ end ∷ []) parts ∙ append_assoc ks js (end ∷ [])) all

some_lexeme : (room : ℕ) (us : List Lexeme) (x : Item) (next : Option Lexeme) → Inner room us x next → 1 ≤ length us
some_lexeme room us x next s = let b = item_begins us x s.spelled in let long = ap length b.is in omega arith

module _ (room : ℕ) (inner : Reader Item) (e : Exact inner (Inner room) (Inner room)) where
  pub exact_items : (w : List ℕ) → Apart w → Exact (until w inner) (Items w room) (Items w room)
  exact_items w a = exact_said (exact_until w inner (Inner room) (Inner room) e (some_lexeme room) (some_lexeme room))
      (λ us xs next u. items_to w room u)
      (λ us xs next t. of_parts t.parts (items_from w room next t.end a t.ends t.spelled t.shallow))

  at_end : Apart (codes "end")
  unfolding head_in declaration_in construct_in gate_in is_name name_in is_reserved reserved_with
  at_end = record { apart = refl; no_else = refl }

  at_endgenerate : Apart (codes "endgenerate")
  unfolding head_in declaration_in construct_in gate_in is_name name_in is_reserved reserved_with
  at_endgenerate = record { apart = refl; no_else = refl }

  abbrev pub GenerateC : Spelling Item
  GenerateC us x next = Lead (IsWord (codes "generate")) (Row (Items (codes "endgenerate") room) (λ items. Done (i.Generate (place_if (front us next)) items))) us x next

  -- what holds items, and no `else` belongs to
  pub shut : {us : List Lexeme} {x : Item} {next : Option Lexeme} → SpellsItem false us x → depth_of_item x ≤ suc room → Inner (suc room) us x next
  shut s low = record { open_if = false; spelled = s; shallow = low; closed = λ o. cc }

  pub exact_generate : Exact (generate room inner) (Inner (suc room)) GenerateC
  unfolding generate
  exact_generate = exact_as (exact_peek place_if (λ place. exact_word (codes "generate") (exact_items (codes "endgenerate") at_endgenerate >>= (λ items. exact_pure (i.Generate place items)))))
      (λ us x next h.
      let a = h.behind in let d = a.behind in let t = a.here in
      let is : x ≡ i.Generate (start us) a.answer = d.is ∙ ap (λ z. i.Generate z a.answer) (placed us h.lexeme h.others next h.is) in
      let low = t.shallow in let deep = ap depth_of_item is ∙ depth-Generate (start us) a.answer in
      shut (g.generate h.lexeme t.end t.inside a.answer h.holds t.spelled t.ends refl (cc (append-nil a.one)) is) (omega arith))
      (λ us x next d. d)

  abbrev pub LoopC : Spelling Item
  LoopC us x next = Lead (IsWord (codes "for")) (Row (Fits SpellsLoop depth_of_loop room) (λ h. Lead (IsWord (codes "begin")) (Row (Fits SpellsLabel (λ _. 0) 0) (λ n.
      Row (Items (codes "end") room) (λ items. Done (i.For (place_if (front us next)) h n items)))))) us x next

  pub exact_for : Laws → Exact (repeated room inner) (Inner (suc room)) LoopC
  unfolding repeated turned
  exact_for laws = exact_as (exact_peek place_if (λ place. exact_word (codes "for") (laws.exact_loop room >>= (λ h. exact_word (codes "begin") (exact_label >>= (λ n. exact_items (codes "end") at_end >>= (λ items. exact_pure (i.For place h n items))))))))
      (λ us x next h.
      let a = h.behind in let b = a.behind in let c = b.behind in let d = c.behind in let f = d.behind in let t = d.here in
      let is : x ≡ i.For (start us) a.answer c.answer d.answer = f.is ∙ ap (λ z. i.For z a.answer c.answer d.answer) (placed us h.lexeme h.others next h.is) in
      let one = a.here.shallow in let low = t.shallow in let deep = ap depth_of_item is ∙ depth-For (start us) a.answer c.answer d.answer in
      shut (g.loop h.lexeme b.lexeme t.end a.one c.one t.inside a.answer c.answer d.answer h.holds a.here.spelled b.holds c.here.spelled t.spelled t.ends refl (cc (append-nil d.one)) is) (omega arith))
      (λ us x next d. d)

  -- what a generate construct holds
  pub record Blocks (us : List Lexeme) (b : Block (List Item)) (next : Option Lexeme) : Type 0 where
    pub open_if : Bool
    pub spelled : SpellsBlock open_if us b
    pub shallow : deepest_of depth_of_item b.items ≤ room
    pub closed : open_if ≡ true → sees_word (codes "else") next ≡ false

  abbrev GroupC : Spelling (Block (List Item))
  GroupC = Lead (IsWord (codes "begin")) (Row (Before (λ o. sees (codes ":") o ≡ false) (Fits (SpellsOptional SpellsLabel) (λ _. 0) 0)) (λ n. Row (Items (codes "end") room) (λ items. Done (record { name = n; items = items }))))

  group_to : (us : List Lexeme) (b : Block (List Item)) (next : Option Lexeme)
      → Lead (IsWord (codes "begin")) (Row (Fits (SpellsOptional SpellsLabel) (λ _. 0) 0) (λ n. Row (Items (codes "end") room) (λ items. Done (record { name = n; items = items })))) us b next → Blocks us b next
  group_to us b next h =
      let a = h.behind in let c = a.behind in let d = c.behind in let t = c.here in
      let low = t.shallow in let deep = ap (λ z. deepest_of depth_of_item z.items) d.is in
      record { open_if = false; spelled = g.group h.lexeme t.end a.one t.inside a.answer c.answer h.holds a.here.spelled t.spelled t.ends refl (cc (append-nil c.one)) d.is; shallow = omega arith; closed = λ o. cc }

  short_to : (us : List Lexeme) (b : Block (List Item)) (next : Option Lexeme)
      → Either (sees (codes ";") (front us next)) (Lead (IsMark (codes ";")) (Done (record { name = None; items = [] }))) (Row (Inner room) (λ x. Done (record { name = None; items = x ∷ [] }))) us b next → Blocks us b next
  short_to us b next (inl (seen, h)) =
      let d = h.behind in let deep = ap (λ z. deepest_of depth_of_item z.items) d.is ∙ deepest_none depth_of_item in
      record { open_if = false; spelled = g.nothing h.lexeme h.holds refl (cc) d.is; shallow = omega arith; closed = λ o. cc }
  short_to us b next (inr (unseen, r)) =
      let d = r.behind in let s = r.here in
      let same : r.one ≡ us = cc (append-nil r.one) in let low = s.shallow in
      let one = deepest_one depth_of_item r.answer [] in let none = deepest_none depth_of_item in let deep = ap (λ z. deepest_of depth_of_item z.items) d.is in
      record { open_if = s.open_if; spelled = g.one r.answer (subst (λ z. SpellsItem s.open_if z r.answer) same s.spelled) d.is; shallow = omega arith; closed = λ o. ap (λ z. sees_word (codes "else") (front z next)) (sym d.none) ∙ s.closed o }

  block_to : (us : List Lexeme) (b : Block (List Item)) (next : Option Lexeme)
      → Either (sees_word (codes "begin") (front us next)) (Lead (IsWord (codes "begin")) (Row (Fits (SpellsOptional SpellsLabel) (λ _. 0) 0) (λ n. Row (Items (codes "end") room) (λ items. Done (record { name = n; items = items })))))
      (λ us b next. Either (sees (codes ";") (front us next)) (Lead (IsMark (codes ";")) (Done (record { name = None; items = [] }))) (Row (Inner room) (λ x. Done (record { name = None; items = x ∷ [] }))) us b next) us b next → Blocks us b next
  block_to us b next (inl (seen, h)) = group_to us b next h
  block_to us b next (inr (unseen, h)) = short_to us b next h

  -- no label is a list of items, or its end
  no_label : (us : List Lexeme) (xs : List Item) (end : Lexeme) (next : Option Lexeme) → SpellsItems us xs → IsWord (codes "end") end → sees (codes ":") (front (us ++ end ∷ []) next) ≡ false
  no_label us xs end next (g.no_items nil all) is = ap (λ z. sees (codes ":") (front (z ++ end ∷ []) next)) nil ∙ word_mark 101 (codes "nd") 58 [] end is
  no_label us xs end next (g.more open_if is ks x zs item rest parts all) last =
      let b = item_begins is x item in
      let c : Begin (us ++ end ∷ []) = record { lexeme = b.lexeme; others = (b.others ++ ks) ++ end ∷ []; is = ap (λ z. z ++ end ∷ []) (parts ∙ ap (λ z. z ++ ks) b.is); head = b.head } in
      begin_no_mark 58 [] next c

  block_from : (us : List Lexeme) (b : Block (List Item)) (next : Option Lexeme) (open_if : Bool) → SpellsBlock open_if us b → deepest_of depth_of_item b.items ≤ room → (open_if ≡ true → sees_word (codes "else") next ≡ false)
      → Either (sees_word (codes "begin") (front us next)) GroupC
      (λ us b next. Either (sees (codes ";") (front us next)) (Lead (IsMark (codes ";")) (Done (record { name = None; items = [] }))) (Row (Inner room) (λ x. Done (record { name = None; items = x ∷ [] }))) us b next) us b next
  unfolding sees sees_word head_in declaration_in construct_in gate_in is_name name_in is_reserved reserved_with
  block_from us b next open_if (g.group begin end ns is n items w label inside last o parts same) low closed =
      let deep = ap (λ z. deepest_of depth_of_item z.items) same in
      inl (
        ap (λ z. sees_word (codes "begin") (front z next)) parts ∙ w,
        record {
          lexeme = begin;
          others = ns ++ (is ++ end ∷ []);
          is = parts;
          holds = w;
          behind = record {
            one = ns;
            two = is ++ end ∷ [];
            answer = n;
            is = refl;
            here = before (fit label (omega arith)) (no_label is items end next inside last);
            behind = record {
              one = is ++ end ∷ [];
              two = [];
              answer = items;
              is = sym (append-nil (is ++ end ∷ []));
              here = record { inside = is; end = end; parts = refl; spelled = inside; ends = last; shallow = omega arith };
              behind = record { none = refl; is = same };
            };
          };
        },
      )
  block_from us b next open_if (g.nothing semi is o parts same) low closed =
      inr (
        ap (λ z. sees_word (codes "begin") (front z next)) parts ∙ mark_word 59 [] 98 (codes "egin") semi is,
        inl (
          ap (λ z. sees (codes ";") (front z next)) parts ∙ is,
          record { lexeme = semi; others = []; is = parts; holds = is; behind = record { none = refl; is = same } },
        ),
      )
  block_from us b next open_if (g.one x item same) low closed =
      let begins = item_begins us x item in
      let deep = ap (λ z. deepest_of depth_of_item z.items) same in let one = deepest_one depth_of_item x [] in
      inr (
        begin_no_word (codes "begin") next begins refl,
        inr (
          begin_no_mark 59 [] next begins,
          record { one = us; two = []; answer = x; is = sym (append-nil us); here = record { open_if = open_if; spelled = item; shallow = omega arith; closed = closed }; behind = record { none = refl; is = same } },
        ),
      )

  pub exact_block : Exact (block room inner) Blocks Blocks
  unfolding block group short nothing
  exact_block = exact_as (exact_peek (sees_word (codes "begin")) (λ grouped. exact_if grouped
      (exact_word (codes "begin") (exact_maybe_label >>= (λ n. exact_items (codes "end") at_end >>= (λ items. exact_pure (record { name = n; items = items })))))
      (exact_peek (sees (codes ";")) (λ empty. exact_if empty (exact_mark (codes ";") (exact_pure (record { name = None; items = [] }))) (e >>= (λ x. exact_pure (record { name = None; items = x ∷ [] })))))))
      block_to (λ us b next d. block_from us b next d.open_if d.spelled d.shallow d.closed)
