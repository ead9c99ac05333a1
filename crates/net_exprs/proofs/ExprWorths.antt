-- Serves specs/Laws.antt: what expressions are worth.
use Rattle.std.proofs.Common.{◌≡◌, ℕ, Bool, true, false, if◌then◌else◌, List, [], ◌∷◌, ◌++◌, map, Ok, Err, refl, sym, ap, subst, ◌∙◌}
use Rattle.std.proofs.lemmas.List.{map-append}
use Rattle.vlog_tree.specs.declared.expr.Expr.{Expr, ind-Expr, map-Expr, roll-Expr}
use Rattle.vlog_tree.specs.declared.expr.Expr.TheOpen.{Expr-F}
use Rattle.vlog_tree.specs.declared.expr.Expr.TheVariants.{rolls-Number, rolls-Name, rolls-Index, rolls-Select, rolls-Brackets, rolls-Concat, rolls-Repeat, rolls-Unary, rolls-Binary, rolls-Conditional}
use Rattle.vlog_tree.specs.declared.expr.Part.{Part}
use Rattle.vlog_tree.specs.declared.expr.Part.TheVariants.{Fixed, Up, Down}
use Rattle.vlog_tree.specs.declared.operator.Unary.{Unary}
use Rattle.vlog_tree.specs.declared.operator.Binary.{Binary}
use Rattle.rdc_tern.specs.declared.value.Tern.{Tern}
use Rattle.rdc_tern.specs.Shifts.{select_of}
use Rattle.rdc_tern.specs.Words.{any_of}
use Rattle.vlog_const.specs.declared.shape.Shape.{Shape}
use Rattle.vlog_const.specs.declared.answer.ConstValue.{ConstValue}
use Rattle.vlog_const.specs.Names.{no_values}
use Rattle.vlog_const.specs.Worths.{Or_fault}
use Rattle.vlog_const.specs.Widths.{unary_context, left_context, right_context, common, within}
use Rattle.vlog_const.specs.Constants.{value_in}
use Rattle.design_form.specs.Bits.{bits}
use Rattle.design_form.specs.Bits as design
use Rattle.design_form.specs.Gates as gates
use Rattle.design_form.specs.Selects.{Seen, part_width}
use Rattle.design_form.specs.Selects as selects
use Rattle.design_form.specs.Values as value
use Rattle.design_form.specs.Values.{Valued, valued, constant_bits, is_computed, number_alone, count_alone, word_in}
use Rattle.design_form.proofs.ValueLemmas.{valued-Number, valued-Name, valued-Index, valued-Select, valued-Brackets, valued-Concat, valued-Repeat, valued-Unary, valued-Binary, valued-Conditional}
use Rattle.design_form.proofs.ConstantValues.{inside_agrees}
use Rattle.net_view.specs.View.{Numbered}
use Rattle.net_view.specs.Values.{State, at, IsValuation}
use Rattle.net_words.specs.Builds.{Build, Gives, ◌>>=◌}
use Rattle.net_words.proofs.WorthLemmas.{gives_return, gives_then, gives_more}
use Rattle.net_words.proofs.WordWorths.{any_gives, select_gives}
use Rattle.net_exprs.specs.Wired.{Wired, seen_of}
use Rattle.net_exprs.specs.Constants.{constants, value_or}
use Rattle.net_exprs.specs.Extensions.{extended, copies}
use Rattle.net_exprs.specs.Laws.{AreWorthWords, seen_names}
use Rattle.net_exprs.specs.Lowered.{Formed, Lowered, lowered, by_value, picked_by, select_word, joined, repeated, gates_word, binary_word, choice_word, unary_formed}
use Rattle.net_exprs.proofs.LoweredForms.{lowered-Number, lowered-Name, lowered-Index, lowered-Select, lowered-Brackets, lowered-Concat, lowered-Repeat, lowered-Unary, lowered-Binary, lowered-Conditional}
use Rattle.net_exprs.proofs.ShapeLemmas.{shapes_kept}
use Rattle.net_exprs.proofs.FormWorths.{bits_are, constant_are, constants_gives, extended_gives, copies_map, before_gives, between_gives}
use Rattle.net_exprs.proofs.PickWorths.{part_gives, picked_gives}

module _ (whole : List Numbered) (state : State) (found : List Tern) (valuation : IsValuation whole state found) (names : List ℕ → Wired) where
  abbrev seen : List ℕ → Seen
  seen = seen_names (at found) names

  -- the shape of a value, and its words in every context
  pub record Worth (a : Lowered) (v : Valued) : Type 0 where
    pub shape : a.shape ≡ v.shape
    pub word : (c : Shape) → Gives whole (a.word c) (λ made. map (at found) made ≡ v.word c)

  abbrev IsSo : Expr → Type 0
  IsSo e = Worth (lowered names e) (valued seen e)

  abbrev Gates : Formed → Valued → Type 0
  Gates a v = (c : Shape) → Gives whole (a.gates c) (λ made. map (at found) made ≡ v.word c)

  -- a word of the shape of a value
  alone : (a : Lowered) (v : Valued) → Worth a v → Gives whole (a.word a.shape) (λ made. map (at found) made ≡ v.word v.shape)
  alone a v h = subst (λ (s : Shape). Gives whole (a.word a.shape) (λ made. map (at found) made ≡ v.word s)) h.shape (h.word a.shape)

  -- a constant is worth its value, and what is none what its gates are
  valued_or : (e : Expr) (c : Shape) (b : Build (List ℕ)) → Gives whole b (λ made. map (at found) made ≡ word_in seen c e) → (r : Or_fault ConstValue) → value_in no_values c e ≡ r
      → Gives whole (value_or r b) (λ made. map (at found) made ≡ word_in seen c e)
  valued_or e c b given (Ok v) is =
      gives_more whole _ _ _ (constants_gives whole state found valuation (bits v.width v.bits) (bits_are v.width v.bits)) (λ made made-is. made-is ∙ sym (inside_agrees seen c e v is))
  valued_or e c b given (Err fault) is = given

  by_form : (e e' : Expr) (a : Formed) (v : Valued) → e ≡ e' → lowered names e' ≡ by_value e' a → valued seen e' ≡ v → Gates a v → IsSo e
  by_form e e' a v rolls left right given =
      subst IsSo (sym rolls) (record {
        shape = shapes_kept (at found) names e';
        word = λ c.
            subst (λ (x : Lowered). Gives whole (x.word c) (λ made. map (at found) made ≡ word_in seen c e')) (sym left)
            (valued_or e' c (a.gates c) (subst (λ (x : Valued). Gives whole (a.gates c) (λ made. map (at found) made ≡ x.word c)) (sym right) (given c)) (value_in no_values c e') refl);
      })

  -- ---- forms

  fixed_gives : (b : Build (List ℕ)) (w : List Tern) → Gives whole b (λ made. map (at found) made ≡ w) → (c : Shape) → Gives whole (b >>= extended c) (λ made. map (at found) made ≡ design.extended c w)
  fixed_gives b w given c = gives_then whole _ _ _ _ given (λ x. gives_more whole _ _ _ (extended_gives whole state found valuation c x) (λ made made-is x-is. made-is ∙ ap (design.extended c) x-is))

  index_gives : (how : Part) (v : Wired) (n : ℕ) (a : Lowered) (x : Valued) → Worth a x → Gives whole (picked_by how v n a) (λ made. map (at found) made ≡ selects.picked how (seen_of (at found) v) n x.shape (x.word x.shape))
  unfolding picked_by
  index_gives how v n a x h =
      subst (λ (s : Shape). Gives whole (picked_by how v n a) (λ made. map (at found) made ≡ selects.picked how (seen_of (at found) v) n s (x.word x.shape))) h.shape
      (gives_then whole _ _ _ _ (alone a x h) (λ e.
      gives_more whole _ _ _ (picked_gives whole state found valuation how v.range v.nodes n a.shape e) (λ made made-is e-is. made-is ∙ ap (selects.picked how (seen_of (at found) v) n a.shape) e-is)))

  select_gives_word : (v : Wired) (how : Part) (i j : Expr) (a : Lowered) (x : Valued) → Worth a x
      → Gives whole (select_word v how i a j) (λ made. map (at found) made ≡ value.select_word (seen_of (at found) v) how i x j)
  unfolding select_word value.select_word
  select_gives_word v Fixed i j a x h = part_gives whole state found valuation v.range v.nodes (number_alone j) 0 (part_width v.range (number_alone i) (number_alone j))
  select_gives_word v Up i j a x h = index_gives Up v (count_alone j) a x h
  select_gives_word v Down i j a x h = index_gives Down v (count_alone j) a x h

  unary_gives : (op : Unary) (a : Lowered) (x : Valued) → Worth a x → (c : Shape)
      → Gives whole ((unary_formed op a).gates c) (λ made. map (at found) made ≡ (value.unary_valued op x).word c)
  unary_gives op a x h c =
      subst (λ (s : Shape). Gives whole ((unary_formed op a).gates c) (λ made. map (at found) made ≡ gates.before op c (x.word (unary_context op s c)))) h.shape
      (gives_then whole _ _ _ _ (h.word (unary_context op a.shape c)) (λ w.
      gives_more whole _ _ _ (before_gives whole state found valuation op c w) (λ made made-is w-is. made-is ∙ ap (gates.before op c) w-is)))

  gates_gives : (op : Binary) (a b : Lowered) (x y : Valued) → is_computed op ≡ false → Worth a x → Worth b y → (c : Shape)
      → Gives whole (gates_word op a b c) (λ made. map (at found) made ≡ value.gates_word op x y c)
  unfolding gates_word
  gates_gives op a b x y computed h k c =
      let both : (s t : Shape) → List Tern = λ s t. gates.between op (common s t).signed c (x.word (left_context op s t c)) (y.word (right_context op s t c)) in
      subst (λ (s : Shape). Gives whole (gates_word op a b c) (λ made. map (at found) made ≡ both s y.shape)) h.shape
      (subst (λ (t : Shape). Gives whole (gates_word op a b c) (λ made. map (at found) made ≡ both a.shape t)) k.shape
      (gives_then whole _ _ _ _ (h.word (left_context op a.shape b.shape c)) (λ l.
      gives_then whole _ _ _ _ (k.word (right_context op a.shape b.shape c)) (λ r.
      gives_more whole _ _ _ (between_gives whole state found valuation op (common a.shape b.shape).signed c l r computed) (λ made made-is r-is l-is.
      made-is ∙ ap (λ (w : List Tern). gates.between op (common a.shape b.shape).signed c w (map (at found) r)) l-is
      ∙ ap (gates.between op (common a.shape b.shape).signed c (x.word (left_context op a.shape b.shape c))) r-is)))))

  binary_by : (e : Expr) (op : Binary) (a b : Lowered) (x y : Valued) → Worth a x → Worth b y → (c : Shape) (t : Bool) → is_computed op ≡ t
      → Gives whole (if t then constants (constant_bits c.width (value_in no_values c e)) else gates_word op a b c)
      (λ made. map (at found) made ≡ (if t then constant_bits c.width (value_in no_values c e) else value.gates_word op x y c))
  binary_by e op a b x y h k c true is = constants_gives whole state found valuation (constant_bits c.width (value_in no_values c e)) (constant_are c.width (value_in no_values c e))
  binary_by e op a b x y h k c false is = gates_gives op a b x y is h k c

  binary_gives : (e : Expr) (op : Binary) (a b : Lowered) (x y : Valued) → Worth a x → Worth b y → (c : Shape) → Gives whole (binary_word e op a b c) (λ made. map (at found) made ≡ value.binary_word e op x y c)
  unfolding binary_word value.binary_word
  binary_gives e op a b x y h k c = binary_by e op a b x y h k c (is_computed op) refl

  choice_gives : (t a b : Lowered) (u x y : Valued) → Worth t u → Worth a x → Worth b y → (c : Shape) → Gives whole (choice_word t a b c) (λ made. map (at found) made ≡ (value.choice_valued u x y).word c)
  unfolding choice_word
  choice_gives t a b u x y g h k c =
      gives_then whole _ _ _ _ (alone t u g) (λ test.
      gives_then whole _ _ _ _ (any_gives whole state found valuation test) (λ s.
      gives_then whole _ _ _ _ (h.word c) (λ l.
      gives_then whole _ _ _ _ (k.word c) (λ r.
      gives_more whole _ _ _ (select_gives whole state found valuation s l r) (λ made made-is r-is l-is s-is test-is.
      made-is ∙ ap (λ (z : Tern). select_of z (map (at found) l) (map (at found) r)) (s-is ∙ ap any_of test-is)
      ∙ ap (λ (w : List Tern). select_of (any_of (u.word u.shape)) w (map (at found) r)) l-is ∙ ap (select_of (any_of (u.word u.shape)) (x.word c)) r-is)))))

  joined_gives : (es : List ((e : Expr) × IsSo e)) → Gives whole (joined (map (lowered names) (map (λ p. p.0) es))) (λ made. map (at found) made ≡ value.joined (map (valued seen) (map (λ p. p.0) es)))
  unfolding joined value.joined
  joined_gives [] = gives_return whole _ [] refl
  joined_gives (e ∷ es) =
      gives_then whole _ _ _ _ (alone (lowered names e.0) (valued seen e.0) e.1) (λ top.
      gives_then whole _ _ _ _ (joined_gives es) (λ low.
      gives_return whole _ (low ++ top) (λ low-is top-is.
      map-append (at found) low top ∙ ap (λ (w : List Tern). w ++ map (at found) top) low-is ∙ ap (λ (w : List Tern). value.joined (map (valued seen) (map (λ p. p.0) es)) ++ w) top-is)))

  repeated_gives : (n : ℕ) (es : List ((e : Expr) × IsSo e)) → Gives whole (repeated n (map (lowered names) (map (λ p. p.0) es))) (λ made. map (at found) made ≡ design.copies n (value.joined (map (valued seen) (map (λ p. p.0) es))))
  unfolding repeated
  repeated_gives n es = gives_then whole _ _ _ _ (joined_gives es) (λ w. gives_return whole _ (copies n w) (λ w-is. copies_map (at found) n w ∙ ap (design.copies n) w-is))

  by_parts : (y : Expr-F ((e : Expr) × IsSo e)) → IsSo (roll-Expr (map-Expr ((e : Expr) × IsSo e) Expr (λ p. p.0) y))
  by_parts (Expr-F.Number place x) =
      by_form _ _ _ _ (rolls-Number place x) (lowered-Number names place x) (valued-Number seen place x) (fixed_gives _ _ (constants_gives whole state found valuation (bits x.width x.bits) (bits_are x.width x.bits)))
  by_parts (Expr-F.Name place name) = by_form _ _ _ _ (rolls-Name place name) (lowered-Name names place name) (valued-Name seen place name) (fixed_gives _ _ (gives_return whole _ (names name).nodes refl))
  by_parts (Expr-F.Index place name i) =
      by_form _ _ _ _ (rolls-Index place name i.0) (lowered-Index names place name i.0) (valued-Index seen place name i.0) (fixed_gives _ _ (index_gives Down (names name) 1 (lowered names i.0) (valued seen i.0) i.1))
  by_parts (Expr-F.Select how place name i j) =
      by_form _ _ _ _ (rolls-Select how place name i.0 j.0) (lowered-Select names place name how i.0 j.0) (valued-Select seen place name how i.0 j.0)
      (fixed_gives _ _ (select_gives_word (names name) how i.0 j.0 (lowered names i.0) (valued seen i.0) i.1))
  by_parts (Expr-F.Brackets place a) = by_form _ _ _ _ (rolls-Brackets place a.0) (lowered-Brackets names place a.0) (valued-Brackets seen place a.0) (a.1).word
  by_parts (Expr-F.Concat place es) =
      by_form _ _ _ _ (rolls-Concat place (map (λ p. p.0) es)) (lowered-Concat names place (map (λ p. p.0) es)) (valued-Concat seen place (map (λ p. p.0) es)) (fixed_gives _ _ (joined_gives es))
  by_parts (Expr-F.Repeat place k es) =
      by_form _ _ _ _ (rolls-Repeat place k.0 (map (λ p. p.0) es)) (lowered-Repeat names place k.0 (map (λ p. p.0) es)) (valued-Repeat seen place k.0 (map (λ p. p.0) es)) (fixed_gives _ _ (repeated_gives (count_alone k.0) es))
  by_parts (Expr-F.Unary place op a) =
      by_form _ _ _ _ (rolls-Unary place op a.0) (lowered-Unary names place op a.0) (valued-Unary seen place op a.0) (unary_gives op (lowered names a.0) (valued seen a.0) a.1)
  by_parts (Expr-F.Binary place op x y) =
      by_form _ _ _ _ (rolls-Binary place op x.0 y.0) (lowered-Binary names place op x.0 y.0) (valued-Binary seen place op x.0 y.0)
      (binary_gives _ op (lowered names x.0) (lowered names y.0) (valued seen x.0) (valued seen y.0) x.1 y.1)
  by_parts (Expr-F.Conditional place t x y) =
      by_form _ _ _ _ (rolls-Conditional place t.0 x.0 y.0) (lowered-Conditional names place t.0 x.0 y.0) (valued-Conditional seen place t.0 x.0 y.0)
      (choice_gives (lowered names t.0) (lowered names x.0) (lowered names y.0) (valued seen t.0) (valued seen x.0) (valued seen y.0) t.1 x.1 y.1)

  pub worth : (e : Expr) → IsSo e
  worth e = ind-Expr IsSo (λ x y is. subst (λ z. IsSo (roll-Expr z)) is (by_parts y)) e

  pub worth_alone : (e : Expr) → Gives whole ((lowered names e).word (lowered names e).shape) (λ made. map (at found) made ≡ (valued seen e).word (valued seen e).shape)
  worth_alone e = alone (lowered names e) (valued seen e) (worth e)

  pub worth_inside : (c : Shape) (e : Expr) → Gives whole ((lowered names e).word c) (λ made. map (at found) made ≡ (valued seen e).word c)
  worth_inside c e = (worth e).word c

  pub worth_assigned : (w : ℕ) (e : Expr) → Gives whole ((lowered names e).word (within w (lowered names e).shape)) (λ made. map (at found) made ≡ (valued seen e).word (within w (valued seen e).shape))
  worth_assigned w e =
      subst (λ (s : Shape). Gives whole ((lowered names e).word (within w (lowered names e).shape)) (λ made. map (at found) made ≡ (valued seen e).word (within w s))) (worth e).shape ((worth e).word (within w (lowered names e).shape))

pub words_are_worth : AreWorthWords
words_are_worth = record {
  alone = λ names e whole state found valuation. worth_alone whole state found valuation names e;
  inside = λ names c e whole state found valuation. worth_inside whole state found valuation names c e;
  assigned = λ names w e whole state found valuation. worth_assigned whole state found valuation names w e;
}
