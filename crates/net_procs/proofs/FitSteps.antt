-- Serves nodes of a body: they are still there in a net that has grown.
use Rattle.std.proofs.Common.{◌≡◌, ℕ, ◌<◌, ◌≤◌, List, All, length, Result, Ok, Err, IfOk, sym, subst, ◌∙◌}
use Rattle.design_form.specs.declared.parts.Parts.{Parts}
use Rattle.net_view.specs.View.{Numbered}
use Rattle.net_gates.specs.declared.fault.GateFault.{GateFault}
use Rattle.net_words.specs.Builds.{AreThere}
use Rattle.net_words.proofs.WordSteps.{still_there}
use Rattle.net_exprs.specs.Names.{HasNodes}
use Rattle.net_procs.specs.declared.labels.Choice.{Choice}
use Rattle.net_procs.specs.Laws.{AreBits}
use Rattle.net_procs.specs.Runs.{Run}
use Rattle.net_procs.specs.Ready.{IsChoice, IsFit}

-- in a net that has grown
pub fit_later : (d : Parts) (reads bits : List ℕ) (old now : List Numbered) (r : Run) → IsFit d reads bits old r → length old ≤ length now → IsFit d reads bits now r
fit_later d reads bits old now r fit longer = record {
  has = fit.has;
  seen = fit.seen;
  becomes = fit.becomes;
  now = still_there old now r.now fit.now longer;
  next = still_there old now r.next fit.next longer;
}

-- as many nodes, which are there
pub fit_as : (d : Parts) (reads bits : List ℕ) (old now : List Numbered) (a b : Run) → IsFit d reads bits old a → length b.now ≡ length a.now → length b.next ≡ length a.next → AreThere now b.now → AreThere now b.next → IsFit d reads bits now b
fit_as d reads bits old now a b fit seen becomes in_now in_next = record {
  has = seen ∙ fit.has;
  seen = subst (λ (n : ℕ). All (λ k. k < n) reads) (sym seen) fit.seen;
  becomes = subst (λ (n : ℕ). All (λ k. k < n) bits) (sym becomes) fit.becomes;
  now = in_now;
  next = in_next;
}

pub choice_later : (old now : List Numbered) (c : Choice) → IsChoice old c → length old ≤ length now → IsChoice now c
choice_later old now c fit longer = record { wide = fit.wide; there = still_there old now c.word.items fit.there longer }

-- the same nodes
pub fit_same : {A : Type 0} (f : A → Run) (d : Parts) (reads bits : List ℕ) (gates : List Numbered) (r : Run) (q : Result A GateFault) → IsFit d reads bits gates r → IfOk q (λ a. f a ≡ r) → IfOk q (λ a. IsFit d reads bits gates (f a))
fit_same f d reads bits gates r (Ok a) fit is = subst (IsFit d reads bits gates) (sym is) fit
fit_same f d reads bits gates r (Err e) fit is = tt

-- before the body
pub fit_first : (d : Parts) (reads bits : List ℕ) (gates : List Numbered) (nodes a b : List ℕ) → HasNodes d nodes → AreBits reads nodes → AreBits bits nodes → AreThere gates nodes → a ≡ nodes → b ≡ nodes
    → IsFit d reads bits gates (record { now = a; next = b })
fit_first d reads bits gates nodes a b has in_reads in_bits there seen becomes =
    subst (IsFit d reads bits gates) (λ k. record { now = sym seen k; next = sym becomes k }) (record { has = has; seen = in_reads; becomes = in_bits; now = there; next = there })
