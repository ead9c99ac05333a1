-- What the readers of a generate case's items take.
use Rattle.std.proofs.Common.{◌≡◌, ℕ, zero, suc, ◌<◌, ◌≤◌, max, Bool, true, false, inl, inr, List, [], ◌∷◌, ◌++◌, length, Option, Ok, refl, sym, ap, ◌∙◌, subst, append_assoc, append-nil, length-append, arith}
use Rattle.std.specs.Prelude.{codes}
use Rattle.rdc_outside.specs.declared.source.Place.{Place}
use Rattle.vlog_tree.specs.declared.expr.Expr.{Expr}
use Rattle.vlog_tree.specs.declared.stmt.Arm.{Arm}
use Rattle.vlog_tree.specs.declared.item.Block.{Block}
use Rattle.vlog_tree.specs.declared.item.Item.{Item}
use Rattle.vlog_tree.specs.declared.item.Item.TheVariants as i
use Rattle.vlog_tree.specs.Lexemes.{Lexeme, IsMark, IsWord, start}
use Rattle.vlog_tree.specs.Reserved.{is_reserved, reserved_with}
use Rattle.vlog_tree.specs.Expressions.{SpellsPlain, SpellsPlainList}
use Rattle.vlog_tree.specs.Statements.{MayColon}
use Rattle.vlog_tree.specs.Statements as st
use Rattle.vlog_tree.specs.Items as g
use Rattle.vlog_tree.specs.Items.{SpellsItem, SpellsItems, SpellsBlock, SpellsItemArms}
use Rattle.vlog_tree.specs.Depth.{depth, deepest_of, depth_of_item}
use Rattle.vlog_expr.specs.Reading.{Reader, first, place_if, sees, sees_word}
use Rattle.vlog_expr.proofs.SpelledLemmas.{sized}
use Rattle.vlog_parse.specs.Items.{default_body, default_arm, labelled_arm, arm_then, arms_by, arms_from, arms, cases, block}
use Rattle.vlog_parse.proofs.Exact.{Spelling, front, Exact, exact_as, Row, ◌>>=◌, Done, exact_pure, exact_wrong, Lead, exact_mark, exact_word, exact_peek, Either, exact_if, lead, row, of_parts, exact_said}
use Rattle.vlog_parse.proofs.Commas.{Fits, Before, fit, before, deepest_one, deepest_none}
use Rattle.vlog_parse.proofs.Looks.{Ends, at_round, at_colon, MarkAhead, placed, placed_at, unlike, other_mark, other_word, word_mark}
use Rattle.vlog_parse.proofs.Starts.{Starts, list_starts, fine_word, exact_exprs}
use Rattle.vlog_parse.proofs.Given.{exact_expr}
use Rattle.vlog_parse.proofs.ItemDepths.{arm_depth, depth-Case}
use Rattle.vlog_parse.proofs.ItemBegins.{item_begins, begin_no_mark}
use Rattle.vlog_parse.proofs.BlocksExact.{Inner, Blocks, exact_block, shut}
use Rattle.vlog_parse.proofs.ChoicesExact.{block_low, block_high}

-- a case item
abbrev pub ArmOf : Type 0
ArmOf = Arm (Block (List Item))

AtColon : Option Lexeme → Type 0
AtColon o = MarkAhead (codes ":") o

colon_ends : (o : Option Lexeme) → AtColon o → Ends o
unfolding AtColon
colon_ends o c = at_colon c.lexeme c.is c.marks

colon_no_comma : (o : Option Lexeme) → AtColon o → sees (codes ",") o ≡ false
unfolding AtColon
colon_no_comma o c = unlike (codes ":") (codes ",") o c.lexeme c.is c.marks refl

block_no_colon : {open_if : Bool} (us : List Lexeme) (b : Block (List Item)) (next : Option Lexeme) → SpellsBlock open_if us b → sees (codes ":") (front us next) ≡ false
block_no_colon us b next (g.group begin end ns is n items w label inside last o parts same) = ap (λ z. sees (codes ":") (front z next)) parts ∙ word_mark 98 (codes "egin") 58 [] begin w
block_no_colon us b next (g.nothing semi is o parts same) = ap (λ z. sees (codes ":") (front z next)) parts ∙ other_mark (codes ";") (codes ":") semi is refl
block_no_colon us b next (g.one x item same) = begin_no_mark 58 [] next (item_begins us x item)

module _ (room : ℕ) (inner : Reader Item) (e : Exact inner (Inner room) (Inner room)) where
  -- "default" [ ":" ] gblock
  record Default (us : List Lexeme) (a : ArmOf) (next : Option Lexeme) : Type 0 where
    word : Lexeme
    colon : List Lexeme
    inside : List Lexeme
    body : Block (List Item)
    worded : IsWord (codes "default") word
    may : MayColon colon
    here : Blocks room inner e inside body next
    parts : us ≡ word ∷ (colon ++ inside)
    is : a ≡ record { place = start us; labels = []; body = body }

  -- L(expr) ":" gblock
  record Labelled (us : List Lexeme) (a : ArmOf) (next : Option Lexeme) : Type 0 where
    colon : Lexeme
    first : List Lexeme
    inside : List Lexeme
    labels : List Expr
    body : Block (List Item)
    spelled : SpellsPlainList first labels
    shallow : deepest_of depth labels ≤ room
    marks : IsMark (codes ":") colon
    here : Blocks room inner e inside body next
    parts : us ≡ first ++ colon ∷ inside
    is : a ≡ record { place = start us; labels = labels; body = body }

  exact_body : (place : Place) → Exact (default_body room inner place) (Row (Blocks room inner e) (λ b. Done (record { place = place; labels = []; body = b }))) (Row (Blocks room inner e) (λ b. Done (record { place = place; labels = []; body = b })))
  unfolding default_body
  exact_body place = exact_block room inner e >>= (λ b. exact_pure (record { place = place; labels = []; body = b }))

  Body : Place → Spelling ArmOf
  Body place = Row (Blocks room inner e) (λ b. Done (record { place = place; labels = []; body = b }))

  DefaultR : Spelling ArmOf
  DefaultR us a next = Lead (IsWord (codes "default")) (λ vs a n. Either (sees (codes ":") (front vs n)) (Lead (IsMark (codes ":")) (Body (place_if (front us next)))) (Body (place_if (front us next))) vs a n) us a next

  default_to : (us : List Lexeme) (a : ArmOf) (next : Option Lexeme) → DefaultR us a next → Default us a next
  unfolding DefaultR Body
  default_to us a next h = by h.behind
    where
      same : place_if (front us next) ≡ start us
      same = placed us h.lexeme h.others next h.is

      by : Either (sees (codes ":") (front h.others next)) (Lead (IsMark (codes ":")) (Body (place_if (front us next)))) (Body (place_if (front us next))) h.others a next → Default us a next
      by (inl (seen, c)) =
          let r = c.behind in let d = r.behind in
          record {
            word = h.lexeme;
            colon = c.lexeme ∷ [];
            inside = r.one;
            body = r.answer;
            worded = h.holds;
            may = st.with c.lexeme c.holds refl;
            here = subst (λ z. Blocks room inner e r.one r.answer (front z next)) d.none r.here;
            parts = cc (append-nil r.one);
            is = d.is ∙ ap (λ z. record { place = z; labels = []; body = r.answer }) same;
          }
      by (inr (unseen, r)) =
          let d = r.behind in
          record {
            word = h.lexeme;
            colon = [];
            inside = r.one;
            body = r.answer;
            worded = h.holds;
            may = st.without refl;
            here = subst (λ z. Blocks room inner e r.one r.answer (front z next)) d.none r.here;
            parts = cc (append-nil r.one);
            is = d.is ∙ ap (λ z. record { place = z; labels = []; body = r.answer }) same;
          }

  body_of : (place : Place) (us : List Lexeme) (a : ArmOf) (b : Block (List Item)) (next : Option Lexeme) → Blocks room inner e us b next → a ≡ record { place = place; labels = []; body = b } → Body place us a next
  unfolding Body
  body_of place us a b next s is = record { one = us; two = []; answer = b; is = sym (append-nil us); here = s; behind = record { none = refl; is = is } }

  default_from : (us : List Lexeme) (a : ArmOf) (next : Option Lexeme) → Default us a next → DefaultR us a next
  unfolding DefaultR sees
  default_from us a next d = by d.may
    where
      same : a ≡ record { place = place_if (front us next); labels = []; body = d.body }
      same = d.is ∙ ap (λ z. record { place = z; labels = []; body = d.body }) (sym (placed us d.word (d.colon ++ d.inside) next d.parts))

      by : MayColon d.colon → DefaultR us a next
      by (st.without nil) =
          let tail : d.colon ++ d.inside ≡ d.inside = ap (λ z. z ++ d.inside) nil in
          record {
            lexeme = d.word;
            others = d.inside;
            is = d.parts ∙ ap (λ z. d.word ∷ z) tail;
            holds = d.worded;
            behind = inr (block_no_colon d.inside d.body next d.here.spelled, body_of (place_if (front us next)) d.inside a d.body next d.here same);
          }
      by (st.with colon marks parts) =
          let tail : d.colon ++ d.inside ≡ colon ∷ d.inside = ap (λ z. z ++ d.inside) parts in
          record {
            lexeme = d.word;
            others = colon ∷ d.inside;
            is = d.parts ∙ ap (λ z. d.word ∷ z) tail;
            holds = d.worded;
            behind = inl (marks, record { lexeme = colon; others = d.inside; is = refl; holds = marks; behind = body_of (place_if (front us next)) d.inside a d.body next d.here same });
          }

  exact_default : Exact (default_arm room inner) Default Default
  unfolding default_arm DefaultR Body
  exact_default = exact_as (exact_peek place_if (λ place. exact_word (codes "default") (exact_peek (sees (codes ":")) (λ there. exact_if there (exact_mark (codes ":") (exact_body place)) (exact_body place)))))
      default_to default_from

  exact_labelled : Exact (labelled_arm room inner) Labelled Labelled
  unfolding labelled_arm AtColon
  exact_labelled = exact_said (exact_peek place_if (λ place. exact_exprs room AtColon colon_ends colon_no_comma >>= (λ ls. exact_mark (codes ":") (exact_block room inner e >>= (λ b. exact_pure (record { place = place; labels = ls; body = b }))))))
      (λ us a next h.
      let c = h.behind in let r = c.behind in let d = r.behind in
      let parts : us ≡ h.one ++ c.lexeme ∷ r.one = cc (append-nil r.one) in
      record {
        colon = c.lexeme;
        first = h.one;
        inside = r.one;
        labels = h.answer;
        body = r.answer;
        spelled = h.here.spelled;
        shallow = h.here.shallow;
        marks = c.holds;
        here = subst (λ z. Blocks room inner e r.one r.answer (front z next)) d.none r.here;
        parts = parts;
        is = d.is ∙ ap (λ z. record { place = z; labels = h.answer; body = r.answer }) (placed_at us h.one c.lexeme r.one next parts);
      })
      (λ us a next f.
      let same : a ≡ record { place = place_if (front (f.first ++ f.colon ∷ f.inside) next); labels = f.labels; body = f.body } =
      f.is ∙ ap (λ z. record { place = z; labels = f.labels; body = f.body }) (sym (placed_at us f.first f.colon f.inside next f.parts) ∙ ap (λ z. place_if (front z next)) f.parts) in
      of_parts f.parts (row f.first _ f.labels (before (fit f.spelled f.shallow) (record { lexeme = f.colon; is = refl; marks = f.marks })) (lead f.marks
      (record { one = f.inside; two = []; answer = f.body; is = sym (append-nil f.inside); here = f.here; behind = record { none = refl; is = same } }))))

  -- case items, and `endcase`; whether one may be the default
  data Arms : Bool → List Lexeme → List ArmOf → Option Lexeme → Type 0 where
    no_more : {may : Bool} {us : List Lexeme} {xs : List ArmOf} {next : Option Lexeme} (l : Lexeme) → IsWord (codes "endcase") l → us ≡ l ∷ [] → xs ≡ [] → Arms may us xs next
    a_default : {may : Bool} {us : List Lexeme} {xs : List ArmOf} {next : Option Lexeme} (is js : List Lexeme) (a : ArmOf) (others : List ArmOf)
        → may ≡ true → Default is a (front js next) → Arms false js others next → us ≡ is ++ js → xs ≡ a ∷ others → Arms may us xs next
    a_labelled : {may : Bool} {us : List Lexeme} {xs : List ArmOf} {next : Option Lexeme} (is js : List Lexeme) (a : ArmOf) (others : List ArmOf)
        → Labelled is a (front js next) → Arms may js others next → us ≡ is ++ js → xs ≡ a ∷ others → Arms may us xs next

  -- with so many turns
  record Within (n : ℕ) (may : Bool) (us : List Lexeme) (xs : List ArmOf) (next : Option Lexeme) : Type 0 where
    arms : Arms may us xs next
    few : length xs < n

  Onward : Spelling ArmOf → Spelling (List ArmOf) → Spelling (List ArmOf)
  Onward S T = Row S (λ a. Row T (λ others. Done (a ∷ others)))

  Step : (Bool → Spelling (List ArmOf)) → Bool → Bool → Bool → Spelling (List ArmOf)
  Step T true other may = Lead (IsWord (codes "endcase")) (Done [])
  Step T false true true = Onward Default (T false)
  Step T false true false = λ us xs next. ⊥
  Step T false false may = Onward Labelled (T may)

  exact_then : {p : Reader ArmOf} {q : Reader (List ArmOf)} {S : Spelling ArmOf} {T D : Spelling (List ArmOf)} → Exact p S S → Exact q T D → Exact (arm_then room inner p q) (Onward S T) (Onward S D)
  unfolding arm_then Onward
  exact_then f g = f >>= (λ a. g >>= (λ others. exact_pure (a ∷ others)))

  exact_step : (n : ℕ) → ((may : Bool) → Exact (arms_from room inner n may) (Arms may) (Within n may)) → (done other may : Bool)
      → Exact (arms_by room inner done other may (arms_from room inner n false) (arms_from room inner n may)) (Step Arms done other may) (Step (Within n) done other may)
  unfolding Step arms_by
  exact_step n again true other may = exact_word (codes "endcase") (exact_pure [])
  exact_step n again false true true = exact_then exact_default (again false)
  exact_step n again false true false = exact_wrong
  exact_step n again false false may = exact_then exact_labelled (again may)

  -- one piece of two in a row, with what is behind both
  onward_to : (S : Spelling ArmOf) (T : Spelling (List ArmOf)) (us : List Lexeme) (xs : List ArmOf) (next : Option Lexeme) → Onward S T us xs next
      → (is : List Lexeme) × (js : List Lexeme) × (a : ArmOf) × (others : List ArmOf) × S is a (front js next) × T js others next × (us ≡ is ++ js) × (xs ≡ a ∷ others)
  unfolding Onward
  onward_to S T us xs next r =
      let q = r.behind in let d = q.behind in
      let same : q.one ≡ r.two = cc (append-nil q.one) in
      (r.one, r.two, r.answer, q.answer, r.here, subst (λ z. T z q.answer next) same (subst (λ z. T q.one q.answer (front z next)) d.none q.here), r.is, d.is)

  onward_from : (S : Spelling ArmOf) (T : Spelling (List ArmOf)) (us is js : List Lexeme) (a : ArmOf) (xs others : List ArmOf) (next : Option Lexeme) → S is a (front js next) → T js others next → us ≡ is ++ js → xs ≡ a ∷ others → Onward S T us xs next
  unfolding Onward
  onward_from S T us is js a xs others next s t parts all =
      record { one = is; two = js; answer = a; is = parts; here = s; behind = record { one = js; two = []; answer = others; is = sym (append-nil js); here = t; behind = record { none = refl; is = all } } }

  step_to : (done other may : Bool) (us : List Lexeme) (xs : List ArmOf) (next : Option Lexeme) → Step Arms done other may us xs next → Arms may us xs next
  unfolding Step
  step_to true other may us xs next h = let d = h.behind in no_more h.lexeme h.holds (cc) d.is
  step_to false true true us xs next r = let t = onward_to Default (Arms false) us xs next r in a_default t.0 t.1 t.2 t.3 refl t.4 t.5 t.6 t.7
  step_to false true false us xs next never = absurd never
  step_to false false may us xs next r = let t = onward_to Labelled (Arms may) us xs next r in a_labelled t.0 t.1 t.2 t.3 t.4 t.5 t.6 t.7

  known_step : (n : ℕ) (b c m : Bool) (may : Bool) (us : List Lexeme) (xs : List ArmOf) (next : Option Lexeme) → sees_word (codes "endcase") (front us next) ≡ b → sees_word (codes "default") (front us next) ≡ c → may ≡ m
      → Step (Within n) b c m us xs next → Step (Within n) (sees_word (codes "endcase") (front us next)) (sees_word (codes "default") (front us next)) may us xs next
  known_step n b c m may us xs next p q r s =
      subst (λ z. Step (Within n) z (sees_word (codes "default") (front us next)) may us xs next) (sym p)
      (subst (λ z. Step (Within n) b z may us xs next) (sym q) (subst (λ z. Step (Within n) b c z us xs next) (sym r) s))

  labelled_starts : (us : List Lexeme) (a : ArmOf) (next : Option Lexeme) → Labelled us a next → Starts us
  labelled_starts us a next f = let s = list_starts f.spelled.spells in record { lexeme = s.lexeme; others = s.others ++ f.colon ∷ f.inside; is = f.parts ∙ ap (λ z. z ++ f.colon ∷ f.inside) s.is; fine = s.fine }

  step_from : (n : ℕ) (may : Bool) (us : List Lexeme) (xs : List ArmOf) (next : Option Lexeme) → Arms may us xs next → length xs < suc n
      → Step (Within n) (sees_word (codes "endcase") (front us next)) (sees_word (codes "default") (front us next)) may us xs next
  unfolding Step sees_word is_reserved reserved_with
  step_from n may us xs next (no_more l is parts all) few =
      known_step n true false may may us xs next (ap (λ z. sees_word (codes "endcase") (front z next)) parts ∙ is) (ap (λ z. sees_word (codes "default") (front z next)) parts ∙ other_word (codes "endcase") (codes "default") l is refl) refl
      (record { lexeme = l; others = []; is = parts; holds = is; behind = record { none = refl; is = all } })
  step_from n may us xs next (a_default is js a others m d o parts all) few =
      let fewer : length others < n = omega (arith, ap length all) in
      let here : us ≡ d.word ∷ ((d.colon ++ d.inside) ++ js) = parts ∙ ap (λ z. z ++ js) d.parts in
      known_step n false true true may us xs next (ap (λ z. sees_word (codes "endcase") (front z next)) here ∙ other_word (codes "default") (codes "endcase") d.word d.worded refl) (ap (λ z. sees_word (codes "default") (front z next)) here ∙ d.worded) m
      (onward_from Default (Within n false) us is js a xs others next d (record { arms = o; few = fewer }) parts all)
  step_from n may us xs next (a_labelled is js a others f o parts all) few =
      let fewer : length others < n = omega (arith, ap length all) in
      let s = labelled_starts is a (front js next) f in
      let here : us ≡ s.lexeme ∷ (s.others ++ js) = parts ∙ ap (λ z. z ++ js) s.is in
      known_step n false false may may us xs next (ap (λ z. sees_word (codes "endcase") (front z next)) here ∙ fine_word 101 (codes "ndcase") s.lexeme s.fine refl refl) (ap (λ z. sees_word (codes "default") (front z next)) here ∙ fine_word 100 (codes "efault") s.lexeme s.fine refl refl) refl
      (onward_from Labelled (Within n may) us is js a xs others next f (record { arms = o; few = fewer }) parts all)

  exact_arms_from : (n : ℕ) (may : Bool) → Exact (arms_from room inner n may) (Arms may) (Within n may)
  unfolding arms_from
  exact_arms_from zero may = exact_as exact_wrong (λ us xs next never. absurd never) (λ us xs next w. let few = w.few in omega arith)
  exact_arms_from (suc n) may =
      exact_as (exact_peek (sees_word (codes "endcase")) (λ done. exact_peek (sees_word (codes "default")) (λ other. exact_step n (exact_arms_from n) done other may)))
      (λ us xs next s. step_to (sees_word (codes "endcase") (front us next)) (sees_word (codes "default") (front us next)) may us xs next s)
      (λ us xs next w. step_from n may us xs next w.arms w.few)

  long_by : (us is js : List Lexeme) (xs others : List ArmOf) (a : ArmOf) → 1 ≤ length is → length others ≤ length js → us ≡ is ++ js → xs ≡ a ∷ others → length xs ≤ length us
  long_by us is js xs others a some most parts all = omega (arith, ap length all, ap length parts, length-append is js)

  arms_long : {may : Bool} {us : List Lexeme} {xs : List ArmOf} {next : Option Lexeme} → Arms may us xs next → length xs ≤ length us
  arms_long (no_more l is parts all) = omega (arith, ap length all)
  arms_long {us = us} {xs = xs} (a_default is js a others m d o parts all) = long_by us is js xs others a (let n = ap length d.parts in omega arith) (arms_long o) parts all
  arms_long {us = us} {xs = xs} {next = next} (a_labelled is js a others f o parts all) = long_by us is js xs others a (let s = labelled_starts is a (front js next) f in let n = ap length s.is in omega arith) (arms_long o) parts all

  exact_arms : Exact (arms room inner) (Arms true) (Arms true)
  unfolding arms
  exact_arms = record {
    sound = λ ls xs rest h. (exact_arms_from (suc (length ls)) true).sound ls xs rest h;
    complete = λ us xs rest d. (exact_arms_from (suc (length (us ++ rest))) true).complete us xs rest (record { arms = d; few = let most = arms_long d in omega (arith, length-append us rest) });
  }

  -- what is spelled
  record Spelled (may : Bool) (us : List Lexeme) (xs : List ArmOf) : Type 0 where
    has : Bool
    inside : List Lexeme
    end : Lexeme
    parts : us ≡ inside ++ end ∷ []
    spelled : SpellsItemArms has inside xs
    allowed : has ≡ true → may ≡ true
    ends : IsWord (codes "endcase") end
    shallow : deepest_of arm_depth xs ≤ max 1 room

  arm_low : (a : ArmOf) → deepest_of depth a.labels ≤ room → deepest_of depth_of_item a.body.items ≤ room → arm_depth a ≤ max 1 room
  unfolding arm_depth
  arm_low a low inside = let b = block_low a.body (max 1 room) (omega arith) (omega arith) in omega arith

  start_same : (us is js : List Lexeme) (l : Lexeme) (ls : List Lexeme) → is ≡ l ∷ ls → us ≡ is ++ js → start us ≡ start is
  unfolding start
  start_same us is js l ls first parts = ap start (parts ∙ ap (λ z. z ++ js) first) ∙ sym (ap start first)

  arms_to : {may : Bool} {us : List Lexeme} {xs : List ArmOf} {next : Option Lexeme} → Arms may us xs next → Spelled may us xs
  arms_to (no_more l is parts all) =
      let deep = ap (deepest_of arm_depth) all ∙ deepest_none arm_depth in
      record { has = false; inside = []; end = l; parts = parts; spelled = g.no_arms refl refl all; allowed = λ h. cc; ends = is; shallow = omega arith }
  arms_to {us = us} {xs = xs} {next = next} (a_default is js a others m d o parts all) =
      let t = arms_to o in
      let none : t.has ≡ false = elim t.has as (λ b. (b ≡ true → false ≡ true) → b ≡ false) [ true ↦ (λ h. let never = h refl in cc) | false ↦ (λ h. refl) ] t.allowed in
      let whole : is ++ t.inside ≡ d.word ∷ (d.colon ++ (d.inside ++ t.inside)) = ap (λ z. z ++ t.inside) d.parts ∙ ap (λ z. d.word ∷ z) (append_assoc d.colon d.inside t.inside) in
      let at = start_same (is ++ t.inside) is t.inside d.word (d.colon ++ d.inside) d.parts refl in
      let low = arm_low a (let labels = ap (λ z. deepest_of depth z.labels) d.is ∙ deepest_none depth in omega arith) (let s = d.here.shallow in let b = ap (λ z. deepest_of depth_of_item z.body.items) d.is in omega arith) in
      let rest = t.shallow in let deep = ap (deepest_of arm_depth) all ∙ deepest_one arm_depth a others in
      record {
        has = true;
        inside = is ++ t.inside;
        end = t.end;
        parts = parts ∙ (ap (λ z. is ++ z) t.parts ∙ sym (append_assoc is t.inside (t.end ∷ [])));
        spelled = g.default d.word d.colon d.inside t.inside d.here.open_if d.body others d.worded d.may d.here.spelled (subst (λ b. SpellsItemArms b t.inside others) none t.spelled) refl whole
            (all ∙ ap (λ z. z ∷ others) (d.is ∙ ap (λ z. record { place = z; labels = []; body = d.body }) (sym at)));
        allowed = λ h. m;
        ends = t.ends;
        shallow = omega arith;
      }
  arms_to {us = us} {xs = xs} {next = next} (a_labelled is js a others f o parts all) =
      let t = arms_to o in
      let whole : is ++ t.inside ≡ f.first ++ f.colon ∷ (f.inside ++ t.inside) = ap (λ z. z ++ t.inside) f.parts ∙ append_assoc f.first (f.colon ∷ f.inside) t.inside in
      let s = labelled_starts is a (front js next) f in
      let at = start_same (is ++ t.inside) is t.inside s.lexeme s.others s.is refl in
      let low = arm_low a (let labels = ap (λ z. deepest_of depth z.labels) f.is in let h = f.shallow in omega arith) (let h = f.here.shallow in let b = ap (λ z. deepest_of depth_of_item z.body.items) f.is in omega arith) in
      let rest = t.shallow in let deep = ap (deepest_of arm_depth) all ∙ deepest_one arm_depth a others in
      record {
        has = t.has;
        inside = is ++ t.inside;
        end = t.end;
        parts = parts ∙ (ap (λ z. is ++ z) t.parts ∙ sym (append_assoc is t.inside (t.end ∷ [])));
        spelled = g.labelled f.colon f.first f.inside t.inside f.here.open_if f.labels f.body others f.spelled f.marks f.here.spelled t.spelled whole
            (all ∙ ap (λ z. z ∷ others) (f.is ∙ ap (λ z. record { place = z; labels = f.labels; body = f.body }) (sym at)));
        allowed = t.allowed;
        ends = t.ends;
        shallow = omega arith;
      }

  -- what stands behind a case item is no `else`
  no_else : {has : Bool} (js : List Lexeme) (xs : List ArmOf) (end : Lexeme) (next : Option Lexeme) → SpellsItemArms has js xs → IsWord (codes "endcase") end → sees_word (codes "else") (front (js ++ end ∷ []) next) ≡ false
  unfolding is_reserved reserved_with
  no_else js xs end next (g.no_arms h nil all) is = ap (λ z. sees_word (codes "else") (front (z ++ end ∷ []) next)) nil ∙ other_word (codes "endcase") (codes "else") end is refl
  no_else js xs end next (g.labelled colon es is ks open_if labels body others list marks held rest parts all) ends =
      let s = list_starts list.spells in
      ap (λ z. sees_word (codes "else") (front (z ++ end ∷ []) next)) (parts ∙ ap (λ z. z ++ colon ∷ (is ++ ks)) s.is) ∙ fine_word 101 (codes "lse") s.lexeme s.fine refl refl
  no_else js xs end next (g.default word cs is ks open_if body others w may held rest h parts all) ends =
      ap (λ z. sees_word (codes "else") (front (z ++ end ∷ []) next)) parts ∙ other_word (codes "default") (codes "else") word w refl

  arm_high : (a : ArmOf) → arm_depth a ≤ room → (deepest_of depth a.labels ≤ room) × (deepest_of depth_of_item a.body.items ≤ room)
  unfolding arm_depth
  arm_high a low = (omega arith, block_high a.body room (omega arith))

  arms_of : {has : Bool} (may : Bool) (us : List Lexeme) (xs : List ArmOf) (end : Lexeme) (next : Option Lexeme) → SpellsItemArms has us xs → (has ≡ true → may ≡ true) → IsWord (codes "endcase") end → deepest_of arm_depth xs ≤ room
      → Arms may (us ++ end ∷ []) xs next
  arms_of may us xs end next (g.no_arms h nil all) allowed is low = no_more end is (ap (λ z. z ++ end ∷ []) nil) all
  arms_of may us xs end next (g.labelled colon es is js open_if labels body others list marks block rest parts all) allowed is-end low =
      let deep = ap (deepest_of arm_depth) all ∙ deepest_one arm_depth (record { place = start us; labels = labels; body = body }) others in
      let parts-low = arm_high (record { place = start us; labels = labels; body = body }) (omega arith) in
      let s = list_starts list.spells in
      let whole : us ≡ (es ++ colon ∷ is) ++ js = parts ∙ sym (append_assoc es (colon ∷ is) js) in
      let at = start_same us (es ++ colon ∷ is) js s.lexeme (s.others ++ colon ∷ is) (ap (λ z. z ++ colon ∷ is) s.is) whole in
      let f : Labelled (es ++ colon ∷ is) (record { place = start us; labels = labels; body = body }) (front (js ++ end ∷ []) next) = record {
        colon = colon;
        first = es;
        inside = is;
        labels = labels;
        body = body;
        spelled = list;
        shallow = parts-low.0;
        marks = marks;
        here = record { open_if = open_if; spelled = block; shallow = parts-low.1; closed = λ o. no_else js others end next rest is-end };
        parts = refl;
        is = ap (λ z. record { place = z; labels = labels; body = body }) at;
      } in
      a_labelled (es ++ colon ∷ is) (js ++ end ∷ []) (record { place = start us; labels = labels; body = body }) others f
      (arms_of may js others end next rest allowed is-end (omega arith)) (ap (λ z. z ++ end ∷ []) whole ∙ append_assoc (es ++ colon ∷ is) js (end ∷ [])) all
  arms_of may us xs end next (g.default word cs is js open_if body others w colon block rest h parts all) allowed is-end low =
      let deep = ap (deepest_of arm_depth) all ∙ deepest_one arm_depth (record { place = start us; labels = []; body = body }) others in
      let parts-low = arm_high (record { place = start us; labels = []; body = body }) (omega arith) in
      let whole : us ≡ (word ∷ (cs ++ is)) ++ js = parts ∙ ap (λ z. word ∷ z) (sym (append_assoc cs is js)) in
      let at = start_same us (word ∷ (cs ++ is)) js word (cs ++ is) refl whole in
      let d : Default (word ∷ (cs ++ is)) (record { place = start us; labels = []; body = body }) (front (js ++ end ∷ []) next) = record {
        word = word;
        colon = cs;
        inside = is;
        body = body;
        worded = w;
        may = colon;
        here = record { open_if = open_if; spelled = block; shallow = parts-low.1; closed = λ o. no_else js others end next rest is-end };
        parts = refl;
        is = ap (λ z. record { place = z; labels = []; body = body }) at;
      } in
      a_default (word ∷ (cs ++ is)) (js ++ end ∷ []) (record { place = start us; labels = []; body = body }) others (allowed h) d
      (arms_of false js others end next rest (λ e. cc) is-end (omega arith)) (ap (λ z. z ++ end ∷ []) whole ∙ append_assoc (word ∷ (cs ++ is)) js (end ∷ [])) all

  abbrev Cased : Spelling Expr → Spelling Item
  Cased S us x next = Lead (IsWord (codes "case")) (Lead (IsMark (codes "(")) (Row S (λ selector. Lead (IsMark (codes ")")) (Row (Arms true) (λ found. Done (i.Case (place_if (front us next)) selector found)))))) us x next

  pub CasesC : Spelling Item
  CasesC = Cased (Before Ends (Fits SpellsPlain depth room))

  -- a case, as it is to be read
  pub case_from : (us : List Lexeme) (x : Item) (next : Option Lexeme) (word left right end : Lexeme) (cs is : List Lexeme) (has : Bool) (selector : Expr) (xs : List ArmOf)
      → IsWord (codes "case") word → IsMark (codes "(") left → SpellsPlain cs selector → IsMark (codes ")") right → SpellsItemArms has is xs → IsWord (codes "endcase") end
      → us ≡ word ∷ left ∷ (cs ++ right ∷ (is ++ end ∷ [])) → x ≡ i.Case (start us) selector xs → depth_of_item x ≤ suc room → CasesC us x next
  unfolding CasesC
  case_from us x next word left right end cs is has selector xs w opens s closes found ends parts same low =
      let deep = ap depth_of_item same ∙ depth-Case (start us) selector xs in
      let at = placed us word (left ∷ (cs ++ right ∷ (is ++ end ∷ []))) next parts in
      record {
        lexeme = word;
        others = left ∷ (cs ++ right ∷ (is ++ end ∷ []));
        is = parts;
        holds = w;
        behind = lead opens (row cs _ selector (before (fit s (omega arith)) (at_round right refl closes)) (lead closes
            (record {
              one = is ++ end ∷ [];
              two = [];
              answer = xs;
              is = sym (append-nil (is ++ end ∷ []));
              here = arms_of true is xs end next found (λ h. refl) ends (omega arith);
              behind = record { none = refl; is = same ∙ ap (λ z. i.Case z selector xs) (sym at) };
            })));
      }

  -- what stands between the brackets is some depth
  pub cases_deep : (us : List Lexeme) (x : Item) (next : Option Lexeme) → CasesC us x next → 1 ≤ room
  unfolding CasesC
  cases_deep us x next c = let a = c.behind in let r = a.behind in let f = r.here.said in let low = f.shallow in let s = sized f.spelled.spells in let one = s.some in omega arith

  pub exact_cases : Exact (cases room inner) (Inner (suc room)) CasesC
  unfolding cases CasesC
  exact_cases = exact_as (exact_peek place_if (λ place. exact_word (codes "case") (exact_mark (codes "(") (exact_expr room >>= (λ s. exact_mark (codes ")") (exact_arms >>= (λ found. exact_pure (i.Case place s found))))))))
      (λ us x next h.
      let a = h.behind in let r = a.behind in let b = r.behind in let y = b.behind in let d = y.behind in
      let low = r.here.shallow in
      let some : 1 ≤ room = let z = sized r.here.spelled.spells in let one = z.some in omega arith in
      let t = arms_to y.here in let inside = t.shallow in
      let is : x ≡ i.Case (start us) r.answer y.answer = d.is ∙ ap (λ z. i.Case z r.answer y.answer) (placed us h.lexeme h.others next h.is) in
      let deep = ap depth_of_item is ∙ depth-Case (start us) r.answer y.answer in
      let tail : b.others ≡ t.inside ++ t.end ∷ [] = y.is ∙ (ap (λ z. y.one ++ z) d.none ∙ (append-nil y.one ∙ t.parts)) in
      shut room inner e (g.cases h.lexeme a.lexeme b.lexeme t.end r.one t.inside t.has r.answer y.answer h.holds a.holds r.here.spelled b.holds t.spelled t.ends refl (cc) is) (omega arith))
      (λ us x next d. d)

  pub default_eats : (ls : List Lexeme) (a : ArmOf) (rest : List Lexeme) → default_arm room inner ls ≡ (Ok a, rest) → length rest < length ls
  default_eats ls a rest h = let t = exact_default.sound ls a rest h in let d = t.spelled in let n = ap length d.parts in omega (arith, ap length t.parts, length-append t.taken rest)

  pub labelled_eats : (ls : List Lexeme) (a : ArmOf) (rest : List Lexeme) → labelled_arm room inner ls ≡ (Ok a, rest) → length rest < length ls
  labelled_eats ls a rest h = let t = exact_labelled.sound ls a rest h in let s = labelled_starts t.taken a (first rest) t.spelled in let n = ap length s.is in omega (arith, ap length t.parts, length-append t.taken rest)
