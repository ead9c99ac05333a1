-- Serves builder.rt and flat.rt: what their calls answer.
use Rattle.std.proofs.Common.{◌≡◌, ℕ, ◌<◌, ◌≤◌, Bool, false, [], ◌∷◌, length, sym, ◌∙◌, subst, inl, inr, arith, slice_index_or, Result, Ok, Err, OnOk, OnErr, IfOk, ◌==◌}
use Rattle.std.proofs.lemmas.Bool.{eqb-false}
use Rattle.std.proofs.lemmas.List.{length-append}
use Rattle.std.proofs.lemmas.Option.{slice_get_cases, slice_get-get_or}
use Rattle.net_view.specs.View.{Numbered, Reads}
use Rattle.net_view.specs.FlopNet.{Bit, IsBitAt}
use Rattle.net_view.proofs.ValuesLemmas.{reads_more}
use Rattle.net_core.specs.declared.fault.NetFault.{NetFault}
use Rattle.net_core.specs.declared.folds.Made.{Made}
use Rattle.net_core.specs.declared.folds.Made.TheVariants.{There, New}
use Rattle.net_core.specs.Folds.{folded, added, node_of, HasValue}
use Rattle.net_core.specs.Net.{Net, with_gates, most_nodes, MayAdd, IsDraft, IsFlat}
use Rattle.net_core.proofs.FoldLemmas.{added_value}
use Rattle.net_core.proofs.FitLemmas.{folded_fits, node_inside}
use Rattle.net_core.proofs.DraftLemmas.{draft_made}

-- what holds after a call, at either answer
pub after_result : {A E N : Type 0} (P : N → Type 0) (r : Result A E) (new ok err : N) → OnOk r (new ≡ ok) → OnErr r (new ≡ err) → P ok → P err → P new
after_result P (Ok x) new ok err is is-not p q = subst P (sym is) p
after_result P (Err x) new ok err is-not is p q = subst P (sym is) q

-- a net that isn't full has room
pub room : (n : ℕ) (full : Bool) → full ≡ (n == most_nodes) → full ≡ false → n ≤ most_nodes → n < most_nodes
room n full is not_full small = let other : n ≡ most_nodes → ⊥ = eqb-false n most_nodes (sym is ∙ not_full) in omega (arith, other, small)

-- the node of an added gate is there, and has its value
pub added_inside : (net : Net) (g : Numbered) → IsDraft net → MayAdd (length net.gates) g → node_of net.gates (folded net.gates g) < length (added net.gates (folded net.gates g))
added_inside net g draft may = node_inside net.gates (folded net.gates g) (folded_fits net.gates (length net.names) g draft.net_is may)

pub draft_added : (net : Net) (g : Numbered) → IsDraft net → MayAdd (length net.gates) g → length net.gates < most_nodes → IsDraft (with_gates net (added net.gates (folded net.gates g)))
draft_added net g draft may less = draft_made net (folded net.gates g) draft (folded_fits net.gates (length net.names) g draft.net_is may) less

-- of the answer to an added gate
pub answer_inside : (net new : Net) (g : Numbered) (r : Result ℕ NetFault) → IsDraft net → MayAdd (length net.gates) g → IfOk r (λ n. n ≡ node_of net.gates (folded net.gates g))
    → OnOk r (new ≡ with_gates net (added net.gates (folded net.gates g))) → IfOk r (λ n. n < length new.gates)
answer_inside net new g (Ok n) draft may node is = subst (λ (m : Net). n < length m.gates) (sym is) (subst (λ (k : ℕ). k < length (added net.gates (folded net.gates g))) (sym node) (added_inside net g draft may))
answer_inside net new g (Err e) draft may node is = tt

pub answer_value : (net new : Net) (g : Numbered) (r : Result ℕ NetFault) → IfOk r (λ n. n ≡ node_of net.gates (folded net.gates g))
    → OnOk r (new ≡ with_gates net (added net.gates (folded net.gates g))) → IfOk r (λ n. HasValue new.gates n g)
answer_value net new g (Ok n) node is = subst (λ (m : Net). HasValue m.gates n g) (sym is) (subst (λ (k : ℕ). HasValue (added net.gates (folded net.gates g)) k g) (sym node) (added_value net.gates g))
answer_value net new g (Err e) node is = tt

-- what a gate of a finished net reads is there
pub gate_reads : (net : Net) (n : ℕ) (d : Numbered) → IsFlat net → n < length net.gates → Reads (λ j. j < length net.gates) (λ s. s < length net.kinds) (slice_index_or net.gates n d)
gate_reads net n d flat inside =
    reads_more (λ j. j < n) (λ s. s < length net.names) (λ j. j < length net.gates) (λ s. s < length net.kinds) (slice_index_or net.gates n d)
    (λ j below. omega arith) (λ s below. omega (arith, flat.draft.each_kind, below)) (flat.draft.net_is.lower n (slice_index_or net.gates n d) (slice_get-get_or net.gates n d inside))

-- the node of a bit of a finished net is there
pub place_inside : (net : Net) (b n : ℕ) → IsFlat net → b < length net.bits → ((bit : Bit) → IsBitAt net.bits b bit → n ≡ bit.node) → n < length net.gates
place_inside net b n flat inside node = elim (slice_get_cases net.bits b).1 [
  | inl here ↦ omega (arith, node here.0 here.2, flat.draft.bit_nodes b here.0 here.2)
  | inr past ↦ absurd (omega (arith, past.0))
]

-- adding a gate takes no node away
pub answer_grows : (net new : Net) (made : Made) (r : Result ℕ NetFault) → OnOk r (new ≡ with_gates net (added net.gates made)) → OnErr r (new ≡ net) → length net.gates ≤ length new.gates
answer_grows net new made r ok err = after_result (λ (m : Net). length net.gates ≤ length m.gates) r new (with_gates net (added net.gates made)) net ok err (more made) (omega arith)
  where
    more : (made : Made) → length net.gates ≤ length (added net.gates made)
    more (There n) = omega arith
    more (New g) = omega (arith, length-append net.gates (g ∷ []))
