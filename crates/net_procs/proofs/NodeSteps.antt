-- Serves strokes and nodes put back: what is left decides all.
use Rattle.std.proofs.Common.{◌≡◌, ℕ, ◌+◌, ◌<◌, ◌≤◌, ◌==◌, ◌||◌, Bool, true, false, if◌then◌else◌, List, [], ◌∷◌, length, drop, get_or, set, refl, sym, ap, subst, ◌∙◌, eq-eqb, ne_eqb, Option, Some, None}
use Rattle.std.proofs.lemmas.List.{drop_all, drop_more}
use Rattle.net_view.specs.View.{Numbered}
use Rattle.net_words.specs.Builds.{Build, ◌>>=◌, return}
use Rattle.net_words.specs.Bits.{mux}
use Rattle.net_words.specs.Words.{select}
use Rattle.net_words.proofs.BuildLemmas.{IsLeft, all_left}
use Rattle.net_exprs.specs.Names.{node_at}
use Rattle.proc_values.specs.Runs.{is_among}
use Rattle.net_procs.specs.declared.stroke.Stroke.{Stroke}
use Rattle.vlog_tree.specs.declared.stmt.Assigns.{Assigns}
use Rattle.vlog_tree.specs.declared.stmt.Assigns.TheVariants.{Blocking, Nonblocking}
use Rattle.net_procs.specs.Runs.{Run, changed, changed_if, struck, scattered, nodes_of, mixed, chosen}
use Rattle.net_procs.specs.Bodies.{written}

-- ---- among

among_cons : (b : ℕ) (bits : List ℕ) (n : ℕ) → is_among (b ∷ bits) n ≡ ((n == b) || is_among bits n)
unfolding is_among
among_cons b bits n = refl

pub among_here : (bits : List ℕ) (n i d : ℕ) → i < length bits → get_or bits i d ≡ n → is_among (drop i bits) n ≡ is_among bits n → true ≡ is_among bits n
among_here bits n i d inside same left = sym first ∙ subst (λ (l : List ℕ). is_among l n ≡ is_among bits n) (drop_more bits i d inside) left
  where
    first : is_among (get_or bits i d ∷ drop (i + 1) bits) n ≡ true
    first = among_cons (get_or bits i d) (drop (i + 1) bits) n ∙ ap (λ (t : Bool). t || is_among (drop (i + 1) bits) n) (eq-eqb n (get_or bits i d) (sym same))

pub among_later : (bits : List ℕ) (n i d : ℕ) → i < length bits → (get_or bits i d ≡ n → ⊥) → is_among (drop i bits) n ≡ is_among bits n → is_among (drop (i + 1) bits) n ≡ is_among bits n
among_later bits n i d inside other left = sym first ∙ subst (λ (l : List ℕ). is_among l n ≡ is_among bits n) (drop_more bits i d inside) left
  where
    first : is_among (get_or bits i d ∷ drop (i + 1) bits) n ≡ is_among (drop (i + 1) bits) n
    first = among_cons (get_or bits i d) (drop (i + 1) bits) n ∙ ap (λ (t : Bool). t || is_among (drop (i + 1) bits) n) (ne_eqb n (get_or bits i d) (λ e. other (sym e)))

none_among : (n : ℕ) → false ≡ is_among [] n
unfolding is_among
none_among n = refl

pub among_end : (bits : List ℕ) (n i : ℕ) → length bits ≤ i → is_among (drop i bits) n ≡ is_among bits n → false ≡ is_among bits n
among_end bits n i past left = none_among n ∙ subst (λ (l : List ℕ). is_among l n ≡ is_among bits n) (drop_all i bits past) left

-- ---- strokes

pub always : (net : List Numbered) (hit : Option ℕ) (bit value : ℕ) (nodes : List ℕ) → hit ≡ None → IsLeft (changed_if hit bit value nodes) net net (return (set nodes bit value))
unfolding changed_if
always net hit bit value nodes is = subst (λ (h : Option ℕ). IsLeft (changed_if h bit value nodes) net net (return (set nodes bit value))) (sym is) (all_left (return (set nodes bit value)) net)

pub where_hit : (net : List Numbered) (hit : Option ℕ) (h bit value a : ℕ) (nodes : List ℕ) → hit ≡ Some h → a ≡ node_at nodes bit
    → IsLeft (changed_if hit bit value nodes) net net (mux h value a >>= (λ n. return (set nodes bit n)))
unfolding changed_if
where_hit net hit h bit value a nodes is read =
    subst (λ (x : Option ℕ). IsLeft (changed_if x bit value nodes) net net (mux h value a >>= (λ n. return (set nodes bit n)))) (sym is)
    (subst (λ (m : ℕ). IsLeft (changed_if (Some h) bit value nodes) net net (mux h value m >>= (λ n. return (set nodes bit n)))) (sym read)
    (all_left (mux h value (node_at nodes bit) >>= (λ n. return (set nodes bit n))) net))

pub placed : (net : List Numbered) (bits : List ℕ) (k : Stroke) (nodes : List ℕ) → true ≡ is_among bits k.bit → IsLeft (changed bits k nodes) net net (changed_if k.hit k.bit k.value nodes)
unfolding changed
placed net bits k nodes is =
    subst (λ (t : Bool). IsLeft (if t then changed_if k.hit k.bit k.value nodes else return nodes) net net (changed_if k.hit k.bit k.value nodes)) is (all_left (changed_if k.hit k.bit k.value nodes) net)

pub elsewhere : (net : List Numbered) (bits : List ℕ) (k : Stroke) (nodes : List ℕ) → false ≡ is_among bits k.bit → IsLeft (changed bits k nodes) net net (return nodes)
unfolding changed
elsewhere net bits k nodes is =
    subst (λ (t : Bool). IsLeft (if t then changed_if k.hit k.bit k.value nodes else return nodes) net net (return nodes)) is (all_left (return nodes) net)

strokes_here : (ks : List Stroke) (i : ℕ) (k : Stroke) → i < length ks → k ≡ get_or ks i k → drop i ks ≡ k ∷ drop (i + 1) ks
strokes_here ks i k inside is = drop_more ks i k inside ∙ ap (λ (x : Stroke). x ∷ drop (i + 1) ks) (sym is)

pub struck_here : {all : Build (List ℕ)} {old now : List Numbered} (bits : List ℕ) (ks : List Stroke) (nodes : List ℕ) (i : ℕ) (k : Stroke) → i < length ks → k ≡ get_or ks i k
    → IsLeft all old now (struck bits (drop i ks) nodes) → IsLeft all old now (changed bits k nodes >>= (λ next. struck bits (drop (i + 1) ks) next))
unfolding struck
struck_here {all} {old} {now} bits ks nodes i k inside is left = subst (λ (l : List Stroke). IsLeft all old now (struck bits l nodes)) (strokes_here ks i k inside is) left

pub struck_end : {all : Build (List ℕ)} {old now : List Numbered} (bits : List ℕ) (ks : List Stroke) (nodes : List ℕ) (i : ℕ) → length ks ≤ i
    → IsLeft all old now (struck bits (drop i ks) nodes) → IsLeft all old now (return nodes)
unfolding struck
struck_end {all} {old} {now} bits ks nodes i past left = subst (λ (l : List Stroke). IsLeft all old now (struck bits l nodes)) (drop_all i ks past) left

-- ---- nodes put back

pub scattered_here : (bits word nodes whole : List ℕ) (i e d : ℕ) → i < length bits → i < length word → scattered (drop i bits) (drop i word) nodes ≡ whole
    → scattered (drop (i + 1) bits) (drop (i + 1) word) (set nodes (get_or bits i e) (get_or word i d)) ≡ whole
unfolding scattered
scattered_here bits word nodes whole i e d in_bits in_word left = (λ k. scattered (sym (drop_more bits i e in_bits) k) (sym (drop_more word i d in_word) k) nodes) ∙ left

pub scattered_end : (bits word nodes whole : List ℕ) (i : ℕ) → length bits ≤ i → scattered (drop i bits) (drop i word) nodes ≡ whole → nodes ≡ whole
unfolding scattered
scattered_end bits word nodes whole i past left = ap (λ (l : List ℕ). scattered l (drop i word) nodes) (sym (drop_all i bits past)) ∙ left

-- ---- choices

pub mixed_left : (net : List Numbered) (bits : List ℕ) (choice : ℕ) (first nodes x y : List ℕ) → x ≡ nodes_of first bits → y ≡ nodes_of nodes bits
    → IsLeft (mixed bits choice first nodes) net net (select choice x y >>= (λ word. return (scattered bits word nodes)))
unfolding mixed
mixed_left net bits choice first nodes x y one other =
    subst (λ (w : List ℕ). IsLeft (mixed bits choice first nodes) net net (select choice w y >>= (λ word. return (scattered bits word nodes)))) (sym one)
    (subst (λ (w : List ℕ). IsLeft (mixed bits choice first nodes) net net (select choice (nodes_of first bits) w >>= (λ word. return (scattered bits word nodes)))) (sym other)
    (all_left (select choice (nodes_of first bits) (nodes_of nodes bits) >>= (λ word. return (scattered bits word nodes))) net))

mixed_alike : (bits : List ℕ) (choice : ℕ) (x y a b : List ℕ) → x ≡ a → y ≡ b → mixed bits choice a b ≡ mixed bits choice x y
mixed_alike bits choice x y a b one other = λ i. mixed bits choice (sym one i) (sym other i)

pub mixed_next : {all : Build Run} {old now : List Numbered} (bits : List ℕ) (choice : ℕ) (x y a b : List ℕ) (k : List ℕ → Build Run) → x ≡ a → y ≡ b
    → IsLeft all old now (mixed bits choice a b >>= k) → IsLeft all old now (mixed bits choice x y >>= k)
mixed_next {all} {old} {now} bits choice x y a b k one other left = subst (λ (m : Build (List ℕ)). IsLeft all old now (m >>= k)) (mixed_alike bits choice x y a b one other) left

pub chosen_left : (net : List Numbered) (reads bits : List ℕ) (choice : ℕ) (one other : Run) (x y : List ℕ) → x ≡ one.now → y ≡ other.now
    → IsLeft (chosen reads bits choice one other) net net (mixed reads choice x y >>= (λ now. mixed bits choice one.next other.next >>= (λ next. return (record { now = now; next = next }))))
unfolding chosen
chosen_left net reads bits choice one other x y first second =
    mixed_next reads choice x y one.now other.now (λ now. mixed bits choice one.next other.next >>= (λ next. return (record { now = now; next = next }))) first second
    (all_left (mixed reads choice one.now other.now >>= (λ now. mixed bits choice one.next other.next >>= (λ next. return (record { now = now; next = next })))) net)

-- both lists as they are kept
pub returned : {all : Build Run} {old now : List Numbered} (a b x y : List ℕ) → x ≡ a → y ≡ b → IsLeft all old now (return (record { now = a; next = b })) → IsLeft all old now (return (record { now = x; next = y }))
returned {all} {old} {now} a b x y first second left =
    subst (λ (w : List ℕ). IsLeft all old now (return (record { now = w; next = y }))) (sym first) (subst (λ (w : List ℕ). IsLeft all old now (return (record { now = a; next = w }))) (sym second) left)

-- ---- writes

pub struck_alike : {all : Build Run} {old now : List Numbered} (bits : List ℕ) (ks : List Stroke) (x a : List ℕ) (k : List ℕ → Build Run) → x ≡ a
    → IsLeft all old now (struck bits ks a >>= k) → IsLeft all old now (struck bits ks x >>= k)
struck_alike {all} {old} {now} bits ks x a k same left = subst (λ (m : List ℕ). IsLeft all old now (struck bits ks m >>= k)) (sym same) left

pub blocking_left : (net : List Numbered) (reads bits : List ℕ) (by : Assigns) (ks : List Stroke) (r : Run) (x : List ℕ) → by ≡ Blocking → x ≡ r.next
    → IsLeft (written reads bits by ks r) net net (struck bits ks x >>= (λ next. struck reads ks r.now >>= (λ now. return (record { now = now; next = next }))))
unfolding written
blocking_left net reads bits by ks r x is same =
    subst (λ (b : Assigns). IsLeft (written reads bits b ks r) net net (struck bits ks x >>= (λ next. struck reads ks r.now >>= (λ now. return (record { now = now; next = next }))))) (sym is)
    (struck_alike bits ks x r.next (λ next. struck reads ks r.now >>= (λ now. return (record { now = now; next = next }))) same
    (all_left (struck bits ks r.next >>= (λ next. struck reads ks r.now >>= (λ now. return (record { now = now; next = next })))) net))

pub nonblocking_left : (net : List Numbered) (reads bits : List ℕ) (by : Assigns) (ks : List Stroke) (r : Run) (x : List ℕ) → by ≡ Nonblocking → x ≡ r.next
    → IsLeft (written reads bits by ks r) net net (struck bits ks x >>= (λ next. return (record { now = r.now; next = next })))
unfolding written
nonblocking_left net reads bits by ks r x is same =
    subst (λ (b : Assigns). IsLeft (written reads bits b ks r) net net (struck bits ks x >>= (λ next. return (record { now = r.now; next = next })))) (sym is)
    (struck_alike bits ks x r.next (λ next. return (record { now = r.now; next = next })) same
    (all_left (struck bits ks r.next >>= (λ next. return (record { now = r.now; next = next }))) net))

-- what follows the first strokes
unfoldable pub behind_strokes : List ℕ → Assigns → List Stroke → Run → List ℕ → Build Run
behind_strokes reads Blocking ks r next = struck reads ks r.now >>= (λ now. return (record { now = now; next = next }))
behind_strokes reads Nonblocking ks r next = return (record { now = r.now; next = next })

pub strike_left : (net : List Numbered) (reads bits : List ℕ) (by : Assigns) (ks : List Stroke) (r : Run) (x : List ℕ) → x ≡ r.next
    → IsLeft (written reads bits by ks r) net net (struck bits ks x >>= behind_strokes reads by ks r)
unfolding behind_strokes
strike_left net reads bits Blocking ks r x same = blocking_left net reads bits Blocking ks r x refl same
strike_left net reads bits Nonblocking ks r x same = nonblocking_left net reads bits Nonblocking ks r x refl same
